pub mod Bodies
pub mod Built
pub mod Functions
pub mod Parts
pub mod Copied
pub mod Implied
