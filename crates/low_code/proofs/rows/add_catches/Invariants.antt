use Rattle.std.proofs.Common.{◌≡◌, ◌++◌, drop}
use Rattle.low_code.specs.Rows.{catch_rows, catches_all}
use Rattle.low_code.proofs.rows.add_catches.Given as goal

abbrev pub invariant-loop-caught : goal.invariant-loop-caught
invariant-loop-caught l =
    (l.rows.items ++ catch_rows l.from l.to l.scope l.depth (drop l.caught-index l.catches) ≡ l.initial.rows.items ++ catch_rows l.from l.to l.scope l.depth l.catches)
    × (catches_all l.scope (drop l.caught-index l.catches) ≡ catches_all l.scope l.catches)
