pub use Rattle.elab_conv.specs.cpp_ast as cpp_ast
pub use Rattle.elab_conv.specs.cpp_layout as cpp_layout
pub use Rattle.elab_conv.specs.cpp_lex as cpp_lex
pub use Rattle.elab_conv.specs.cpp_names as cpp_names
pub use Rattle.elab_conv.specs.cpp_overload as cpp_overload
pub use Rattle.elab_conv.specs.cpp_tree as cpp_tree
pub use Rattle.cpp_types.specs as cpp_types
pub use Rattle.elab_conv.specs.elab_ctx as elab_ctx
pub use Rattle.elab_conv.specs.elab_rules as elab_rules
pub use Rattle.elab_conv.specs.tx_ints as tx_ints
pub mod Leaves
pub mod Parts
