use Rattle.std.proofs.Common.{◌≡◌, ℕ, ◌<◌, true, is_some, map}
use Rattle.cpp_types.specs.Class.{classes_of}
use Rattle.cpp_overload.specs.Overload.{conversion_at, argument_of, candidate_of}
use Rattle.cpp_overload.proofs.choice.is_viable.Given as goal

abbrev pub invariant-loop-i : goal.invariant-loop-i
invariant-loop-i l = (j : ℕ) → j < l.i → is_some (conversion_at (classes_of l.classes) (map argument_of l.args) (candidate_of l.cand) j) ≡ true
