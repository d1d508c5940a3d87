pub use Rattle.elab_stmt.specs.cpp_ast as cpp_ast
pub use Rattle.elab_stmt.specs.cpp_lex as cpp_lex
pub use Rattle.elab_stmt.specs.cpp_tree as cpp_tree
pub use Rattle.cpp_types.specs as cpp_types
pub use Rattle.elab_stmt.specs.elab_ctx as elab_ctx
pub use Rattle.elab_stmt.specs.elab_rows as elab_rows
pub use Rattle.elab_stmt.specs.elab_rules as elab_rules
pub use Rattle.elab_stmt.specs.elab_scopes as elab_scopes
pub use Rattle.elab_stmt.specs.elab_types as elab_types
pub use Rattle.elab_stmt.specs.tx_ints as tx_ints
pub mod Bodies
pub mod Ends
pub mod Parameters
pub mod Round
pub mod Says
