pub mod Globals
pub mod LinkedImages
