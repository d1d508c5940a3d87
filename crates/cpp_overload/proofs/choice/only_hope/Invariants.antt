use Rattle.std.proofs.Common.{map}
use Rattle.cpp_types.specs.Class.{classes_of}
use Rattle.cpp_overload.specs.Overload.{argument_of, candidate_of}
use Rattle.cpp_overload.proofs.Rounds.{Hope}
use Rattle.cpp_overload.proofs.choice.only_hope.Given as goal

abbrev pub invariant-loop-i : goal.invariant-loop-i
invariant-loop-i l = Hope (classes_of l.classes) (map candidate_of l.cands) (map argument_of l.args) l.i l.hope (candidate_of l.best)
