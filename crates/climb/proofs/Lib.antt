pub mod Reading
pub mod Laying
pub mod Climbing
pub mod Rising
pub mod Counting
