pub mod Scopes
pub mod Below
pub mod Settled
pub mod InPlace
