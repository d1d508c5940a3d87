pub use Rattle.cpp_tree.proofs.cpp_layout as cpp_layout
pub use Rattle.cpp_tree.proofs as cpp_tree
pub use Rattle.cpp_tree.proofs.cpp_types as cpp_types
pub mod LaidOut
pub mod Looks
pub mod Making
pub mod NameLists
pub mod PlaceLists
pub mod Searches
pub mod Sizes
pub mod TypeEntries
