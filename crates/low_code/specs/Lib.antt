pub use Rattle.cpp_tree.specs as cpp_tree
pub use Rattle.tx_code.specs as tx_code
pub mod Scopes
pub mod Effects
pub mod Numbers
pub mod Nodes
pub mod Writer
pub mod Names
pub mod Types
pub mod Caught
pub mod Temporaries
pub mod Rows
