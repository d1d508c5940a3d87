pub mod Own
pub mod Traits
pub mod Within
