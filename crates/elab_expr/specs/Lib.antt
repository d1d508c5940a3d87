pub use Rattle.elab_rows.specs.cpp_ast as cpp_ast
pub use Rattle.elab_rows.specs.cpp_layout as cpp_layout
pub use Rattle.elab_rows.specs.cpp_lex as cpp_lex
pub use Rattle.elab_rows.specs.cpp_names as cpp_names
pub use Rattle.elab_rows.specs.cpp_tree as cpp_tree
pub use Rattle.elab_rows.specs.cpp_types as cpp_types
pub use Rattle.elab_rows.specs.elab_ctx as elab_ctx
pub use Rattle.elab_rows.specs.elab_init as elab_init
pub use Rattle.elab_rows.specs as elab_rows
pub use Rattle.elab_rows.specs.elab_rules as elab_rules
pub use Rattle.elab_rows.specs.elab_types as elab_types
pub use Rattle.elab_rows.specs.tx_ints as tx_ints
pub mod Forms
pub mod Unmoved
