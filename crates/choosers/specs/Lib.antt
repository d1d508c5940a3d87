pub mod Answers
pub mod Picks
