pub mod ConciseDcf
pub mod Listings
