pub mod Objects
pub mod Scalars
pub mod Standing
