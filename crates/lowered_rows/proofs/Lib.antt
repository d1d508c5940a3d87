pub mod Finding
pub mod Catching
pub mod Chains
pub mod Elsewhere
pub mod Runs
pub mod Outward
pub mod Entering
pub mod Handlers
