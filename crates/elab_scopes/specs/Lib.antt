pub use Rattle.elab_expr.specs.cpp_ast as cpp_ast
pub use Rattle.elab_expr.specs.cpp_layout as cpp_layout
pub use Rattle.elab_expr.specs.cpp_lex as cpp_lex
pub use Rattle.elab_expr.specs.cpp_names as cpp_names
pub use Rattle.elab_expr.specs.cpp_tree as cpp_tree
pub use Rattle.elab_expr.specs.cpp_types as cpp_types
pub use Rattle.elab_expr.specs.elab_ctx as elab_ctx
pub use Rattle.elab_expr.specs as elab_expr
pub use Rattle.elab_expr.specs.elab_rows as elab_rows
pub use Rattle.elab_expr.specs.elab_rules as elab_rules
pub use Rattle.elab_expr.specs.elab_types as elab_types
pub use Rattle.elab_expr.specs.tx_ints as tx_ints
pub mod Caught
pub mod Labelled
pub mod Returning
pub mod Says
pub mod States
pub mod Wholes
