pub mod Taking
pub mod Lying
