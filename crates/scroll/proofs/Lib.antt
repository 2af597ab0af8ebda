pub mod Rolls
