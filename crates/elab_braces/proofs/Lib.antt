pub mod Answering
pub mod Initials
pub mod Itemised
