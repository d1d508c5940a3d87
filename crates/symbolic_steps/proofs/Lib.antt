pub mod Looks
pub mod Labels
pub mod Passes
pub mod Counts
