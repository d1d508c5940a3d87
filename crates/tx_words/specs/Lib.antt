pub mod Line
pub mod Names
pub mod Reads
pub mod Worked
