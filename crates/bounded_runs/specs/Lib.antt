pub mod BoundedRuns
