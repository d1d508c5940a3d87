pub use Rattle.elab_entry.specs.cpp_ast as cpp_ast
pub use Rattle.elab_entry.specs.elab_ctx as elab_ctx
pub use Rattle.elab_entry.specs.elab_scopes as elab_scopes
pub mod Building
pub mod Copying
pub mod Ending
pub mod Implied
pub mod Marks
pub mod Says
pub mod Written
