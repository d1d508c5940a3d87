pub mod Integers
pub mod Laws
pub mod Words
