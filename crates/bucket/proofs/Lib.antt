pub mod Room
pub mod Places
