pub mod FromKids
pub mod Shown
