pub mod Contexts
pub mod Laws
pub mod States
pub mod Types
