pub mod Seeing
pub mod Growing
pub mod Copied
pub mod Nothing
pub mod Values
pub mod ProgramParts
mod Forests
pub mod Tests
pub mod Types
pub mod Zeros
