pub mod Declaring
pub mod Kept
pub mod Programs
