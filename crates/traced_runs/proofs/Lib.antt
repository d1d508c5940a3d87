pub mod WatchedTraces
