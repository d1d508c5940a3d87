pub mod SameTerms
pub mod Facts
pub mod Arithmetic
pub mod Bytes
pub mod Later
pub mod Followed
