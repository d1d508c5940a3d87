pub mod Braced
pub mod Items
pub mod Pieces
pub mod Rest
pub mod Types
