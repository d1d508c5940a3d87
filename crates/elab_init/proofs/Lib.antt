pub use Rattle.elab_conv.proofs.cpp_tree as cpp_tree
pub use Rattle.elab_conv.proofs.elab_ctx as elab_ctx
pub use Rattle.elab_conv.proofs.elab_rules as elab_rules
pub mod Listing
pub mod PartsPlaced
pub mod Wholes
