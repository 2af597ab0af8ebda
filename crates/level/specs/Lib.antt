pub mod Level
