pub mod LineLemmas
mod Lockstep
pub mod OwnBodies
pub mod ReachedIndexes
pub mod SaneSteps
pub mod SaneInstructions
pub mod LawfulThreads
