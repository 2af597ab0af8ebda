pub mod Fields
pub mod Requests
