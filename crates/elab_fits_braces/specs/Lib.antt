pub mod Defaults
pub mod Moving
pub mod Qualified
pub mod Strings
