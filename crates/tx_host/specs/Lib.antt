pub mod Told
pub mod Kept
pub mod Steady
pub mod Mem
