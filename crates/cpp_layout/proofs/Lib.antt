pub use Rattle.cpp_types.proofs as cpp_types
pub mod Chains
pub mod Ends
pub mod Forms
pub mod Nesting
pub mod Options
pub mod Samples
pub mod Stacks
