pub mod Loading
pub mod Trying
