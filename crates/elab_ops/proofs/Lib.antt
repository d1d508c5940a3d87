pub mod Comparing
pub mod Sizing
pub mod Steps
pub mod Values
