pub use Rattle.elab_ctx.proofs.cpp_layout as cpp_layout
pub use Rattle.cpp_overload.proofs as cpp_overload
pub use Rattle.elab_ctx.proofs.cpp_tree as cpp_tree
pub use Rattle.elab_ctx.proofs.cpp_types as cpp_types
pub use Rattle.elab_ctx.proofs as elab_ctx
pub mod Found
