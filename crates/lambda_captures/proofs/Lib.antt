pub mod Captured
pub mod Scans
