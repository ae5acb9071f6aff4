pub mod Outcome
pub mod Sound
pub mod Calls
pub mod Scripts
pub mod Examples
