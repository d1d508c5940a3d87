pub mod Books
pub mod Agreeing
