pub mod Words
pub mod Meanings
pub mod Replaced
pub mod Shown
