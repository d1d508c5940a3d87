pub mod Canonical
pub mod Straight
