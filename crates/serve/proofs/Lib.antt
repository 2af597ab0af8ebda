pub mod Turns
pub mod Sessions
pub mod Known
