pub mod Growing
pub mod Session
pub mod Rolls
pub mod Seasons
