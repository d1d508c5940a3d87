pub mod TermLemmas
pub mod Equals
pub mod Shown
pub mod Given
pub mod Advance
pub mod Replaced
pub mod Below
