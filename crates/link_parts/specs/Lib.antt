pub mod Types
pub mod Parts
pub mod Told
