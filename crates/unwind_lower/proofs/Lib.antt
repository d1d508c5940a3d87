pub mod Work
pub mod Walks
