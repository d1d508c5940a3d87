pub mod Beginnings
pub mod Images
pub mod Starting
