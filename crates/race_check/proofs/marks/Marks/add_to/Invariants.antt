use Rattle.std.proofs.Common.{◌≡◌, ◌≤◌, ◌-◌}
use Rattle.std.specs.Prelude.{slice_index}
use Rattle.race_check.specs.Marks.{mark, GathersFrom}
use Rattle.race_check.proofs.marks.Marks.add_to.Given as goal

abbrev pub invariant-pieces : goal.invariant-pieces
invariant-pieces l = record {
  low : l.from ≤ l.at;
  high : l.from ≤ l.to → l.at ≤ l.to;
  none : l.to ≤ l.from → l.at ≡ l.from;
  gathers : GathersFrom (mark l.self) l.from l.at (slice_index l.fn.row.latest) (slice_index l.row.latest);
}

abbrev pub decreases-pieces : goal.decreases-pieces
decreases-pieces l = l.to - l.at
