pub mod Watch
pub mod Course
pub mod Finished
pub mod Ran
pub mod ImageRuns
