pub mod Enums
pub mod Says
