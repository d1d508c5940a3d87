pub use Rattle.elab_casts.proofs.cpp_tree as cpp_tree
pub use Rattle.elab_casts.proofs.elab_ctx as elab_ctx
pub use Rattle.elab_casts.proofs.elab_rules as elab_rules
pub use Rattle.elab_casts.proofs.elab_init as elab_init
pub use Rattle.elab_casts.proofs.elab_make as elab_make
pub use Rattle.elab_casts.proofs.elab_ops as elab_ops
pub use Rattle.elab_types.proofs as elab_types
pub mod Piecing
