pub mod Rows
pub mod Tested
pub mod Kept
pub mod Back
pub mod OneForm
pub mod Holding
