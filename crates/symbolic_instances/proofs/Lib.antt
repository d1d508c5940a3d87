pub mod Forms
pub mod Words
pub mod Likeness
pub mod Leaving
pub mod Nodes
pub mod Values
pub mod Placed
pub mod Steps
