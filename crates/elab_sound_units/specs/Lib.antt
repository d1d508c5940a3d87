pub mod Headers
pub mod Steps
pub mod Units
