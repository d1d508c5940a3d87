pub mod Back
pub mod Passing
