pub use Rattle.elab_ctx.specs.cpp_ast as cpp_ast
pub use Rattle.elab_ctx.specs.cpp_layout as cpp_layout
pub use Rattle.elab_ctx.specs.cpp_lex as cpp_lex
pub use Rattle.elab_ctx.specs.cpp_names as cpp_names
pub use Rattle.cpp_overload.specs as cpp_overload
pub use Rattle.elab_ctx.specs.cpp_tree as cpp_tree
pub use Rattle.elab_ctx.specs.cpp_types as cpp_types
pub use Rattle.elab_ctx.specs as elab_ctx
pub use Rattle.elab_ctx.specs.tx_ints as tx_ints
pub mod Braces
pub mod Calls
pub mod Casts
pub mod Classes
pub mod Constants
pub mod Dump
pub mod Expressions
pub mod Functions
pub mod Globals
pub mod Implicit
pub mod Initialising
pub mod Lambdas
pub mod Members
pub mod Names
pub mod Objects
pub mod Operators
pub mod Programs
pub mod Sizes
pub mod Statements
pub mod Strings
pub mod Types
pub mod Units
pub mod Values
