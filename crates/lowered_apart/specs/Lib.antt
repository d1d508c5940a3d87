pub use Rattle.low_code.specs as low_code
pub use Rattle.unwind_lower.specs as unwind_lower
pub use Rattle.lowered_states.specs as lowered_states
pub mod Still
pub mod Waiting
pub mod Suiting
