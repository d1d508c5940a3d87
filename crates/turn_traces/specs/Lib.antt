pub mod Keeping
pub mod Keeper
