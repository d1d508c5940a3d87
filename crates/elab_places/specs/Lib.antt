pub mod Bodies
pub mod Declared
pub mod Functions
pub mod Places
pub mod Round
