pub mod Casts
pub mod Expressions
pub mod Initials
pub mod Names
pub mod Objects
pub mod Operators
pub mod Trees
