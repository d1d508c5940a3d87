pub use Rattle.elab_locals.proofs.cpp_tree as cpp_tree
pub use Rattle.elab_locals.proofs.elab_ctx as elab_ctx
pub use Rattle.elab_locals.proofs.elab_rules as elab_rules
pub use Rattle.elab_locals.proofs.elab_init as elab_init
pub use Rattle.elab_locals.proofs.elab_make as elab_make
pub use Rattle.elab_locals.proofs.elab_scopes as elab_scopes
pub use Rattle.elab_locals.proofs.elab_types as elab_types
pub mod Chains
pub mod Forms
pub mod Rows
pub mod Scoped
pub mod Small
pub mod Steps
