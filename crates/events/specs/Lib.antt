pub mod Feeding
pub mod Resting
