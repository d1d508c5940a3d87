use Rattle.std.proofs.Common.{ℕ}
use Rattle.cpp_syntax.specs.Shapes.{OwnIndices}
use Rattle.cpp_syntax.proofs.parameters.own_indices.Given as goal

abbrev pub invariant-loop-at : goal.invariant-loop-at
invariant-loop-at l = OwnIndices l.indices.items l.at
