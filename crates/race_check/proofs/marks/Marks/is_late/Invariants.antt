use Rattle.std.proofs.Common.{ℕ, ◌<◌, ◌≤◌}
use Rattle.race_check.specs.Marks.{cell, Late}
use Rattle.race_check.proofs.marks.Marks.is_late.Given as goal

abbrev pub invariant-bytes : goal.invariant-bytes
invariant-bytes l = (x : ℕ) → l.at ≤ x → x < l.byte → Late (cell l.self.bytes x) l.row.latest l.t → ⊥
