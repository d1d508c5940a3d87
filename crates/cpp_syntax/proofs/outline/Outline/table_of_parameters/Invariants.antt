use Rattle.std.proofs.Common.{◌≡◌, ℕ, ◌-◌, length}
use Rattle.cpp_syntax.specs.Shapes.{KnownBelow}
use Rattle.cpp_syntax.proofs.outline.Outline.table_of_parameters.Given as goal

abbrev pub invariant-loop-down : goal.invariant-loop-down
invariant-loop-down l = KnownBelow l.self l.parameters.items (length l.self.terminals - l.down)
