pub use Rattle.elab_rules.proofs as elab_rules
pub mod Items
