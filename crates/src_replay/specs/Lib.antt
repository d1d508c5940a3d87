pub mod Entries
pub mod Orders
pub mod Shown
pub mod Undone
pub mod Inner
pub mod LoneRuns
pub mod Seen
pub mod Turns
