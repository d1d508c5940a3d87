pub mod Records
pub mod Uses
pub mod Marked
pub mod Entries
pub mod Examples
