pub mod BitParts
pub mod WordSlots
pub mod MemoryLemmas
