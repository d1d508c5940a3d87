pub mod Bases
pub mod Homes
pub mod Implicit
pub mod Objects
pub mod Parts
pub mod Pointers
pub mod Walks
