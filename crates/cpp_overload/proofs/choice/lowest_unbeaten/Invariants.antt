use Rattle.std.proofs.Common.{◌≡◌, ℕ, ◌<◌, map}
use Rattle.cpp_types.specs.Class.{classes_of}
use Rattle.cpp_overload.specs.Overload.{Candidate, argument_of, candidate_of, IsViableAt, IsBetter}
use Rattle.cpp_overload.proofs.choice.lowest_unbeaten.Given as goal

abbrev pub invariant-loop-j : goal.invariant-loop-j
invariant-loop-j l = (k : ℕ) (q : Candidate) → k < l.j → (k ≡ l.i → ⊥)
    → IsViableAt (classes_of l.classes) (map candidate_of l.cands) (map argument_of l.args) k q
    → IsBetter (classes_of l.classes) (map argument_of l.args) (candidate_of l.p) q
