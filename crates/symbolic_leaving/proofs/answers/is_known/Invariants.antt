use Rattle.std.proofs.Common.{◌≡◌, drop}
use Rattle.std.specs.List.{list_any}
use Rattle.cpp_tree.specs.cpp_types.Equal.{name_eq}
use Rattle.symbolic_leaving.specs.Answers.{texts_of}
use Rattle.symbolic_leaving.proofs.answers.is_known.Given as goal

abbrev pub invariant-loop-one : goal.invariant-loop-one
invariant-loop-one l = list_any (name_eq l.text) (texts_of l.known) ≡ list_any (name_eq l.text) (texts_of (drop l.one-index l.known))
