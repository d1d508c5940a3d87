pub use Rattle.elab_rules.proofs as elab_rules
pub mod Bodies
pub mod Constructors
pub mod Counting
pub mod Declaring
pub mod Defaults
pub mod Implied
pub mod Lambdas
pub mod Programs
pub mod Statements
pub mod Walk
