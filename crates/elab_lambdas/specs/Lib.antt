pub mod Checkpoints
pub mod Outcomes
pub mod Shown
pub mod Steps
pub mod Whole
