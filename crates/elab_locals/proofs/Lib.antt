pub use Rattle.elab_scopes.proofs.cpp_tree as cpp_tree
pub use Rattle.elab_scopes.proofs.elab_ctx as elab_ctx
pub use Rattle.elab_scopes.proofs.elab_rules as elab_rules
pub use Rattle.elab_scopes.proofs.elab_expr as elab_expr
pub use Rattle.elab_scopes.proofs.elab_init as elab_init
pub use Rattle.elab_scopes.proofs.elab_make as elab_make
pub use Rattle.elab_scopes.proofs as elab_scopes
pub use Rattle.elab_scopes.proofs.elab_types as elab_types
pub mod Declared
pub mod Initials
pub mod Made
pub mod OneValue
pub mod Placed
