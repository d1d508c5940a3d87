pub mod Capturing
pub mod Contexts
pub mod Items
pub mod Making
