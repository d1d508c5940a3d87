pub mod LoneSource
pub mod Zeros
