pub mod TracedRuns
