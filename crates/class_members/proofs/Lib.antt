pub mod Chains
pub mod SameFunctions
