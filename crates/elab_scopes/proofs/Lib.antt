pub use Rattle.elab_expr.proofs.cpp_tree as cpp_tree
pub use Rattle.elab_expr.proofs.elab_ctx as elab_ctx
pub use Rattle.elab_expr.proofs.elab_rules as elab_rules
pub use Rattle.elab_expr.proofs as elab_expr
pub use Rattle.elab_expr.proofs.elab_init as elab_init
pub use Rattle.elab_expr.proofs.elab_make as elab_make
pub use Rattle.elab_expr.proofs.elab_types as elab_types
pub mod Behind
pub mod Catching
pub mod Choices
pub mod Labelling
pub mod Makings
pub mod Standing
pub mod Wholly
