pub mod Offers
pub mod AtRest
pub mod Folding
pub mod Steps
pub mod Loaded
