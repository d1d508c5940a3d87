pub mod Callees
pub mod Members
