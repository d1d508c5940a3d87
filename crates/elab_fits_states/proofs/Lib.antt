pub use Rattle.elab_rules.proofs as elab_rules
pub mod Bodies
pub mod Caught
pub mod Discipline
pub mod Good
pub mod Lambdas
pub mod Lists
pub mod Made
pub mod Making
pub mod Reading
pub mod Spelled
pub mod Texts
pub mod Variables
