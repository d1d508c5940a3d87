use Rattle.std.proofs.Common.{◌≡◌, ◌+◌, ◌≤◌, drop}
use Rattle.turn_bounds.specs.Alone.{zeros_in}
use Rattle.bounded_runs.proofs.runs.first_turns.Given as goal

-- those before this one, and those from it on, are all
abbrev pub invariant-loop-t : goal.invariant-loop-t
invariant-loop-t l = record {
  sum : l.turns + zeros_in (drop l.t-index l.picked) ≡ zeros_in l.picked;
  few : l.turns ≤ l.t-index;
}
