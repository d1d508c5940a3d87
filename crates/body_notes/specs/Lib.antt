pub mod Fits
pub mod Called
pub mod Callees
pub mod Named
pub mod Entries
pub mod Checked
