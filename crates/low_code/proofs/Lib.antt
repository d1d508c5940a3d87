pub mod Lists
pub mod Jumps
pub mod Ways
pub mod Chains
pub mod Bases
pub mod Tables
pub mod Pieces
