pub use Rattle.elab_rules.proofs as elab_rules
pub mod Closures
pub mod Ending
pub mod Frames
pub mod Holding
pub mod Implicits
pub mod Keeping
pub mod Making
pub mod Shown
