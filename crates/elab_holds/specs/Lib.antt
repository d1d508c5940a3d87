pub mod Contexts
pub mod Locals
