pub mod Calls
pub mod Reading
pub mod Promises
