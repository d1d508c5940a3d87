use Rattle.cpp_syntax.specs.Pairing.{Paired}
use Rattle.cpp_syntax.proofs.partners.partners.Given as goal

abbrev pub invariant-loop-at : goal.invariant-loop-at
invariant-loop-at l = Paired l.terminals l.partners.items l.opened.items l.at l.at
