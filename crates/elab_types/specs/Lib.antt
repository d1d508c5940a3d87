pub mod Kids
pub mod Shown
pub mod Specified
pub mod Syntax
