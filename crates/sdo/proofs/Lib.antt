pub mod Verdicts
pub mod Names
pub mod Maps
pub mod Parts
pub mod Answering
pub mod Downloading
pub mod Transfers
