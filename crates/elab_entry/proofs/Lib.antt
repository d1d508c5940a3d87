pub use Rattle.elab_stmt.proofs.cpp_tree as cpp_tree
pub use Rattle.cpp_types.proofs as cpp_types
pub use Rattle.elab_stmt.proofs.elab_ctx as elab_ctx
pub use Rattle.elab_stmt.proofs.elab_rules as elab_rules
pub use Rattle.elab_stmt.proofs.elab_init as elab_init
pub use Rattle.elab_stmt.proofs.elab_make as elab_make
pub use Rattle.elab_stmt.proofs.elab_scopes as elab_scopes
pub use Rattle.elab_stmt.proofs.elab_types as elab_types
pub mod Copies
pub mod Endings
pub mod Entering
pub mod Frames
pub mod Leaving
pub mod OneByOne
pub mod WithBodies
