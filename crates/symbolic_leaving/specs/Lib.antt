pub mod Source
pub mod Answers
pub mod Shown
pub mod Kinds
pub mod Left
