use Rattle.std.proofs.Common.{map}
use Rattle.cpp_types.specs.Class.{classes_of}
use Rattle.cpp_overload.specs.Overload.{argument_of, candidate_of}
use Rattle.cpp_overload.proofs.Rounds.{Compared}
use Rattle.cpp_overload.proofs.choice.is_better.Given as goal

abbrev pub invariant-loop-i : goal.invariant-loop-i
invariant-loop-i l = Compared (classes_of l.classes) (map argument_of l.args) (candidate_of l.p) (candidate_of l.q) l.i l.one
