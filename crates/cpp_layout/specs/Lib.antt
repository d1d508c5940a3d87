pub use Rattle.cpp_types.specs as cpp_types
pub mod Examples
pub mod Frames
pub mod Layout
pub mod Measured
