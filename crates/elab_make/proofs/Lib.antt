pub use Rattle.elab_init.proofs.cpp_tree as cpp_tree
pub use Rattle.elab_init.proofs.elab_ctx as elab_ctx
pub use Rattle.elab_init.proofs.elab_rules as elab_rules
pub use Rattle.elab_init.proofs as elab_init
pub mod Calling
pub mod Constructing
pub mod Fielding
pub mod Nodes
pub mod Putting
pub mod Wording
