pub mod Implicit
pub mod Tests
