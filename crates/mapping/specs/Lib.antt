pub mod Words
pub mod Slots
pub mod Moves
pub mod Received
pub mod Afresh
pub mod Working
pub mod Kept
