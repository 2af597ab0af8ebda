pub mod Laid
pub mod Codes
