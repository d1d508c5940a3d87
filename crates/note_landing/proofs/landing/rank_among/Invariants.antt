use Rattle.std.proofs.Common.{ℕ}
use Rattle.cpp_tree.specs.cpp_types.Typ.{Typ}
use Rattle.symbolic_terms.specs.Meanings.{Meaning, Agrees}
use Rattle.note_landing.proofs.landing.rank_among.Given as goal

abbrev pub invariant-loop-at : goal.invariant-loop-at
invariant-loop-at l = (types : ℕ → Typ) (m : Meaning) → Agrees types m l.words → Agrees types m l.initial.words
