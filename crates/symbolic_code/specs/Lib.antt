pub mod Same
pub mod Facts
pub mod Places
pub mod Following
