pub mod Emergencies
pub mod Acts
