pub use Rattle.elab_rules.proofs as elab_rules
pub mod Bodies
pub mod Constructors
pub mod Defaults
pub mod Ending
pub mod Entering
pub mod Functions
pub mod Implied
pub mod Lambdas
pub mod Programs
pub mod Statements
pub mod Steps
pub mod Supplied
pub mod Whole
