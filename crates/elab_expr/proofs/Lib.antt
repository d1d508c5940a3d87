pub use Rattle.elab_rows.proofs.cpp_tree as cpp_tree
pub use Rattle.elab_rows.proofs.elab_ctx as elab_ctx
pub use Rattle.elab_rows.proofs.elab_rules as elab_rules
pub use Rattle.elab_rows.proofs.elab_init as elab_init
pub use Rattle.elab_rows.proofs.elab_make as elab_make
pub use Rattle.elab_rows.proofs.elab_ops as elab_ops
pub use Rattle.elab_rows.proofs.elab_types as elab_types
pub mod Declaring
pub mod FormRows
pub mod LiteralBounds
pub mod Several
pub mod Stages
pub mod Unmoved
