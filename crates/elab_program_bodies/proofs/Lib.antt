pub use Rattle.elab_rules.proofs as elab_rules
pub mod Declaring
pub mod Defining
pub mod Known
pub mod Lists
pub mod Once
pub mod Programs
pub mod Shown
pub mod Special
pub mod Walk
