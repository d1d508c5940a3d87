pub mod Skips
pub mod Labels
pub mod Steps
pub mod Waits
