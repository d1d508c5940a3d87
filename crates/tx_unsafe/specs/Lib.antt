pub mod Volatile
pub mod Unsafe
pub mod First
pub mod ClassMarks
pub mod Roots
