pub mod Ranks
pub mod Found
