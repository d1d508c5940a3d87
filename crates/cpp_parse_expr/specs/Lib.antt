pub mod Suffixes
pub mod Depths
pub mod Parse
