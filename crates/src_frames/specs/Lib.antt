pub mod Texts
pub mod Words
pub mod Trees
pub mod Shown
pub mod Bounds
pub mod Sorts
