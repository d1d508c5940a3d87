pub mod Context
pub mod Expressions
pub mod Forms
pub mod Meaning
pub mod Names
pub mod Types
