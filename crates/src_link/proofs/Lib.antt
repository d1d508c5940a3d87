pub mod Binds
pub mod CellLists
pub mod Fitting
