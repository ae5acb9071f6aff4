pub mod Kept
pub mod Traffic
