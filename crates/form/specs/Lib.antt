pub mod Form
pub mod Typed
pub mod Own
pub mod Holding
pub mod Lengths
