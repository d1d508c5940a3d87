pub mod Moments
pub mod Orders
