pub mod Callees
pub mod Chains
pub mod Fields
pub mod MethodPlaces
pub mod Places
