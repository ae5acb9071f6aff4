pub mod Opening
pub mod Answers
pub mod Ending
pub mod Frames
pub mod Loads
