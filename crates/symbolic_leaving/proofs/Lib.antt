pub mod Plain
pub mod Skips
pub mod Tries
pub mod Known
pub mod Zeros
pub mod Scopes
