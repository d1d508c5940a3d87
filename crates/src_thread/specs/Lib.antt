pub mod Left
pub mod Kinds
pub mod Thread
