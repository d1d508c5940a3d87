pub mod Lookups
pub mod Modes
pub mod Threads
pub mod ThreadLaws
