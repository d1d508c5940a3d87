pub mod Terms
pub mod Frames
pub mod Outcomes
pub mod Steps
pub mod Small
pub mod Replacing
