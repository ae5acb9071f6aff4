pub mod OnePdo
pub mod Rounds
