use Rattle.std.proofs.Common.{ℕ, ◌≡◌, ◌<◌, ◌≤◌, ◌-◌}
use Rattle.race_check.specs.Marks.{lone, mark}
use Rattle.race_check.specs.Rows.{Greater}
use Rattle.race_check.proofs.marks.Marks.raise_all.Given as goal

abbrev pub invariant-pieces : goal.invariant-pieces
invariant-pieces l = record {
  low : l.from ≤ l.at;
  high : l.from ≤ l.to → l.at ≤ l.to;
  none : l.to ≤ l.from → l.at ≡ l.from;
  there : (x : ℕ) → l.from ≤ x → x < l.at → Greater (mark l.fn.self x) (lone l.t l.value) (mark l.self x);
  others : (x s : ℕ) → (l.from ≤ x → x < l.at → ⊥) → mark l.self x s ≡ mark l.fn.self x s;
}

abbrev pub decreases-pieces : goal.decreases-pieces
decreases-pieces l = l.to - l.at
