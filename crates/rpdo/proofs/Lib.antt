pub mod Hearing
pub mod Leaving
pub mod Applied
pub mod Frames
pub mod Releases
pub mod Callable
