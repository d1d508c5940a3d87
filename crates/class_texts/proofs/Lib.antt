pub mod Bodies
pub mod Names
pub mod Places
pub mod Ranges
