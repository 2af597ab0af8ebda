pub mod Flaws
pub mod Zeros
