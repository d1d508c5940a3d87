use Rattle.std.proofs.Common.{◌≡◌, ◌≤◌, ℕ, drop}
use Rattle.source_verdict.specs.Places.{since_end}
use Rattle.source_verdict.proofs.places.since_end.Given as goal

pub record Counts (count index here all : ℕ) : Type 0 where
  pub whole : here ≡ all
  pub bound : count ≤ index

abbrev pub invariant-loop-byte : goal.invariant-loop-byte
invariant-loop-byte l = Counts l.count l.byte-index (since_end l.count (drop l.byte-index l.bytes)) (since_end 0 l.bytes)
