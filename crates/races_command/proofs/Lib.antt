pub mod Moments
pub mod Raced
