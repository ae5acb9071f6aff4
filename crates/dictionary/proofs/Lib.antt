pub mod Bytes
pub mod Lines
pub mod LookUp
pub mod Spots
pub mod Regular
pub mod Filled
