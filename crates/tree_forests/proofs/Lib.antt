pub mod Behind
pub mod Copied
pub mod Forests
