pub use Rattle.elab_rules.proofs as elab_rules
pub mod Braces
pub mod Conversions
pub mod Expressions
pub mod Full
pub mod Growing
pub mod Members
pub mod Objects
pub mod Parameters
pub mod Variables
