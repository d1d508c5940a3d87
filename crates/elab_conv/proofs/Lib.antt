pub use Rattle.elab_rules.proofs.cpp_layout as cpp_layout
pub use Rattle.elab_rules.proofs.cpp_overload as cpp_overload
pub use Rattle.elab_rules.proofs.cpp_tree as cpp_tree
pub use Rattle.elab_rules.proofs.elab_ctx as elab_ctx
pub use Rattle.elab_rules.proofs as elab_rules
