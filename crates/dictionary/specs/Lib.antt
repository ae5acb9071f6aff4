pub mod Sizes
pub mod Entries
pub mod Lines
pub mod Identifiers
