pub mod Defs
pub mod Infos
pub mod Numbers
pub mod Globals
pub mod Bases
pub mod Tables
pub mod Bounds
