pub use Rattle.elab_make.proofs.cpp_tree as cpp_tree
pub use Rattle.elab_make.proofs.elab_ctx as elab_ctx
pub use Rattle.elab_make.proofs.elab_rules as elab_rules
pub use Rattle.elab_make.proofs.elab_init as elab_init
pub use Rattle.elab_make.proofs as elab_make
pub use Rattle.elab_ops.proofs as elab_ops
pub mod Beside
pub mod Objects
pub mod Steps
pub mod Taken
