use Rattle.std.proofs.Common.{◌≡◌, ◌<◌, ◌≤◌, ◌-◌}
use Rattle.race_check.specs.Marks.{late_at}
use Rattle.race_check.specs.Words.{WordsOf}
use Rattle.race_check.proofs.found.add_late.Given as goal

abbrev pub invariant-pieces : goal.invariant-pieces
invariant-pieces l = record {
  low : l.from ≤ l.at;
  high : l.from ≤ l.to → l.at ≤ l.to;
  none : l.to ≤ l.from → l.at ≡ l.from;
  words : WordsOf (λ x. (l.from ≤ x) × (x < l.at) × late_at l.marks l.row.latest l.t x) l.fn.words.items l.words.items;
}

abbrev pub decreases-pieces : goal.decreases-pieces
decreases-pieces l = l.to - l.at
