use Rattle.std.proofs.Common.{◌≡◌, ◌≤◌, ◌+◌, ℕ, drop}
use Rattle.source_verdict.specs.Places.{ends_in}
use Rattle.source_verdict.proofs.places.ends_in.Given as goal

pub record Counts (count index here all : ℕ) : Type 0 where
  pub whole : count + here ≡ all
  pub bound : count ≤ index

abbrev pub invariant-loop-byte : goal.invariant-loop-byte
invariant-loop-byte l = Counts l.count l.byte-index (ends_in (drop l.byte-index l.bytes)) (ends_in l.bytes)
