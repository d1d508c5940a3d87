pub mod Saves
pub mod Threads
pub mod View
pub mod Blocks
pub mod Here
pub mod Allocation
pub mod Standing
pub mod Runtime
