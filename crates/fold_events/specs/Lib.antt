pub mod Lagging
pub mod Keeping
