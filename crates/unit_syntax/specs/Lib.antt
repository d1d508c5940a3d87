pub mod Whole
pub mod Copies
