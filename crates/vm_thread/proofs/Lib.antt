pub mod Spellings
pub mod Bases
pub mod Operands
pub mod Calls
