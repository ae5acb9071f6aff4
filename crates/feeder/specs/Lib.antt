pub mod Feeder
pub mod Feeding
pub mod Promises
