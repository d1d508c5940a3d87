pub use Rattle.elab_entry.proofs.elab_types as elab_types
pub mod CopyLists
pub mod Deferring
pub mod GivenParts
pub mod Implying
pub mod Keeping
pub mod MemberSteps
pub mod ObjectParts
pub mod PartLists
pub mod SlotMarks
pub mod TableMarks
