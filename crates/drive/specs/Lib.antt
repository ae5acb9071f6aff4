pub mod DriveStates
pub mod SetPoints
pub mod Window
pub mod StatusWord
pub mod Words
