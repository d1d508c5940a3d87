pub mod Scopes
pub mod Passing
pub mod Around
