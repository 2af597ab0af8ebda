pub mod Readings
pub mod Turns
pub mod Plans
