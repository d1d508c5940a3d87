pub mod Cells
pub mod Says
