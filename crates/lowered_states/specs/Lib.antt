pub use Rattle.low_code.specs as low_code
pub use Rattle.unwind_lower.specs as unwind_lower
pub mod Claims
pub mod Kept
pub mod Sound
pub mod Runs
