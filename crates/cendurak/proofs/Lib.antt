pub mod Ways
pub mod Unique
pub mod Typed
pub mod Named
pub mod Traces
pub mod Runs
