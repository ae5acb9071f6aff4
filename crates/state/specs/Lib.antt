pub mod NmtStates
pub mod Occasions
