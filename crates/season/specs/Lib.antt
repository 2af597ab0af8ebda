pub mod Storeys
