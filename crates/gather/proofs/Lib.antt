pub mod Slots
pub mod Turns
pub mod Passes
pub mod Paging
