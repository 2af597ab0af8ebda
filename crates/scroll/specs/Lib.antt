pub mod Scroll
pub mod Records
pub mod Left
