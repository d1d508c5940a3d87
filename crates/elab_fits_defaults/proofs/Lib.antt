pub mod Exceptions
pub mod Kept
pub mod Made
pub mod Movable
pub mod Own
pub mod Pliable
