pub mod Kept
pub mod Placed
pub mod TameTrees
pub mod SafeFuncs
pub mod Linking
pub mod Entered
pub mod Theorem
