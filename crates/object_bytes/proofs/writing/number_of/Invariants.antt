use Rattle.std.proofs.Common.{◌≡◌, ◌+◌, ℕ, drop, map}
use Rattle.tx_code.specs.Objects.{bytes_of}
use Rattle.object_bytes.specs.Spelling.{number_of}
use Rattle.object_bytes.proofs.writing.number_of.Given as goal

pub record Counts (number index : ℕ) (here all : ℕ) : Type 0 where
  pub counted : number ≡ 1 + index
  pub same : here ≡ all

abbrev pub invariant-loop-other : goal.invariant-loop-other
invariant-loop-other l = Counts l.number l.other-index (number_of l.number (map bytes_of (drop l.other-index l.names)) l.name)
    (number_of 1 (map bytes_of l.names) l.name)
