pub mod Dropped
pub mod Lengths
