pub mod Front
pub mod Places
pub mod Names
pub mod Verdict
pub mod Elaborated
pub mod Nested
pub mod Alike
