pub mod Verdicts
pub mod Requests
pub mod Serving
