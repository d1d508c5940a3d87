pub mod Turns
pub mod Playing
pub mod Outcomes
pub mod ImageRuns
