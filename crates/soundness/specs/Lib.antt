pub mod Rows
pub mod Keys
pub mod Kept
pub mod Waiting
pub mod Transfers
pub mod Parts
