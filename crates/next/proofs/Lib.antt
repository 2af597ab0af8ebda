pub mod Ranks
pub mod Rounds
