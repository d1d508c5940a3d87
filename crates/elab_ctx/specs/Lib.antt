pub use Rattle.cpp_ast.specs as cpp_ast
pub use Rattle.cpp_tree.specs.cpp_layout as cpp_layout
pub use Rattle.cpp_lex.specs as cpp_lex
pub use Rattle.cpp_names.specs as cpp_names
pub use Rattle.cpp_tree.specs as cpp_tree
pub use Rattle.cpp_tree.specs.cpp_types as cpp_types
pub use Rattle.cpp_tree.specs.tx_events as tx_events
pub use Rattle.cpp_tree.specs.tx_ints as tx_ints
pub mod Ctx
pub mod Indexed
pub mod Layouts
pub mod Operands
pub mod Places
pub mod Says
pub mod Sized
pub mod Steps
pub mod Types
