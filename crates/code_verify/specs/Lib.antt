pub mod Rules
pub mod Faults
pub mod Places
pub mod Refused
