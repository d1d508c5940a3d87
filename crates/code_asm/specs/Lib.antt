pub mod Steps
pub mod Answers
pub mod Views
pub mod Runs
