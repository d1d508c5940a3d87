use Rattle.std.proofs.Common.{ℕ, ◌<◌, map}
use Rattle.cpp_types.specs.Class.{classes_of}
use Rattle.cpp_overload.specs.Overload.{Candidate, argument_of, candidate_of, IsViableAt}
use Rattle.cpp_overload.proofs.choice.lowest_viable.Given as goal

abbrev pub invariant-loop-i : goal.invariant-loop-i
invariant-loop-i l = (j : ℕ) (q : Candidate) → j < l.i → IsViableAt (classes_of l.classes) (map candidate_of l.cands) (map argument_of l.args) j q → ⊥
