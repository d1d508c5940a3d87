pub mod Pieces
pub mod Bits
pub mod Steps
