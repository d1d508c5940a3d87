pub mod Holding
pub mod Overriders
pub mod Slots
pub mod Steps
pub mod Texts
pub mod Walks
