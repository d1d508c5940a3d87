pub mod Classes
pub mod Types
pub mod Findings
pub mod Rows
pub mod Zeros
pub mod Trees
