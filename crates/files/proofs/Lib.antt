pub mod Heads
pub mod Readings
pub mod Places
pub mod Naming
pub mod Edges
