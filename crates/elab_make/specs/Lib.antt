pub use Rattle.elab_init.specs.cpp_ast as cpp_ast
pub use Rattle.elab_init.specs.cpp_layout as cpp_layout
pub use Rattle.elab_init.specs.cpp_lex as cpp_lex
pub use Rattle.elab_init.specs.cpp_names as cpp_names
pub use Rattle.elab_init.specs.cpp_overload as cpp_overload
pub use Rattle.elab_init.specs.cpp_tree as cpp_tree
pub use Rattle.elab_init.specs.cpp_types as cpp_types
pub use Rattle.elab_init.specs.elab_ctx as elab_ctx
pub use Rattle.elab_init.specs as elab_init
pub use Rattle.elab_init.specs.elab_rules as elab_rules
pub use Rattle.elab_init.specs.tx_ints as tx_ints
pub mod Each
pub mod Exact
pub mod Fields
pub mod Others
pub mod Passing
