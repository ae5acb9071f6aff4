pub mod Promises
pub mod PromisesOfWindow
pub mod PromisesOfLimits
pub mod PromisesOfLoad
pub mod PromisesOfDrive
