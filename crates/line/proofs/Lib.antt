pub mod Digits
pub mod Names
pub mod Fields
pub mod Requests
pub mod Lengths
