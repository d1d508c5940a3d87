pub use Rattle.cpp_layout.specs as cpp_layout
pub use Rattle.cpp_layout.specs.cpp_types as cpp_types
pub use Rattle.tx_events.specs as tx_events
pub use Rattle.tx_ints.specs as tx_ints
pub mod Trees
pub mod Arena
pub mod Units
pub mod Typing
pub mod Parts
pub mod Roles
pub mod Rows
pub mod WellFormed
pub mod Notation
pub mod Examples
