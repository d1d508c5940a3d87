pub use Rattle.elab_make.specs.cpp_ast as cpp_ast
pub use Rattle.elab_make.specs.cpp_layout as cpp_layout
pub use Rattle.elab_make.specs.cpp_lex as cpp_lex
pub use Rattle.elab_make.specs.cpp_names as cpp_names
pub use Rattle.elab_make.specs.cpp_tree as cpp_tree
pub use Rattle.elab_make.specs.cpp_types as cpp_types
pub use Rattle.elab_make.specs.elab_ctx as elab_ctx
pub use Rattle.elab_make.specs.elab_init as elab_init
pub use Rattle.elab_make.specs.elab_rules as elab_rules
pub use Rattle.elab_make.specs.tx_ints as tx_ints
pub mod Parts
pub mod Rows
