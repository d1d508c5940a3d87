pub mod Trees
pub mod Scopes
pub mod Calls
pub mod Leaving
pub mod Nodes
pub mod Steps
