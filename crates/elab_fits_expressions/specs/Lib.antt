pub mod Closures
pub mod Expressions
pub mod Growing
pub mod Written
