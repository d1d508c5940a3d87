pub mod Spelling
pub mod Decoder
pub mod Fields
pub mod Instructions
pub mod Objects
pub mod Counts
pub mod Chains
