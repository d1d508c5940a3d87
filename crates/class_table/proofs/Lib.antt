pub mod Closing
pub mod Functions
pub mod Members
pub mod Reading
pub mod Walking
