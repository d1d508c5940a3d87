pub mod ThreadSets
pub mod LeastWord
pub mod RecordLists
pub mod TableLemmas
pub mod HoldCounts
