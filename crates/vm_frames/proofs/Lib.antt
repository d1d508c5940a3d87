pub mod Stacked
pub mod Numbers
pub mod Below
pub mod Whole
