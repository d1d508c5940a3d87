pub mod Choosing
pub mod Overload
