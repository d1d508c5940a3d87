pub mod Safe
pub mod Marks
pub mod Checked
pub mod Answers
pub mod Examples
