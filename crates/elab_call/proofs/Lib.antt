pub mod CalleeForms
pub mod Chosen
pub mod Grown
pub mod Indices
pub mod Made
pub mod Pointers
