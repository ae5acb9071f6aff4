pub mod Boundary
pub mod Traces
