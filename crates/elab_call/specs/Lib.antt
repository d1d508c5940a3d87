pub mod Callees
pub mod Slots
