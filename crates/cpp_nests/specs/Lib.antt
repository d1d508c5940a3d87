pub mod Roles
pub mod Nests
