pub mod Counts
pub mod Rooms
pub mod Turns
pub mod Rows
pub mod Towers
pub mod Built
pub mod Orders
