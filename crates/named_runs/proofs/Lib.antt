pub mod Policies
pub mod Pickers
pub mod EqualReplay
pub mod Entries
