pub mod Aggregated
pub mod Making
pub mod NoneFound
pub mod Relocation
pub mod Requalification
pub mod StringParts
