pub mod Copies
pub mod Forests
