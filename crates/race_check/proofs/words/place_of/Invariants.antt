use Rattle.std.proofs.Common.{ℕ, ◌<◌, ◌≤◌, ◌-◌, length}
use Rattle.std.specs.Prelude.{slice_index}
use Rattle.race_check.proofs.words.place_of.Given as goal

abbrev pub invariant-below : goal.invariant-below
invariant-below l = record { within : l.at ≤ length l.words; below : (k : ℕ) → k < l.at → slice_index l.words k < l.word }

abbrev pub decreases-below : goal.decreases-below
decreases-below l = length l.words - l.at
