pub mod Below
pub mod Ordered
