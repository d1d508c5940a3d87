use Rattle.std.proofs.Common.{◌≡◌, ℕ, ◌-◌, length}
use Rattle.cpp_syntax.proofs.Operands.{SameOperand}
use Rattle.cpp_syntax.proofs.outline.Outline.begins_operand.Given as goal

abbrev pub invariant-steps : goal.invariant-steps
invariant-steps l = SameOperand l.self l.at l.next

abbrev pub decreases-steps : goal.decreases-steps
decreases-steps l = length l.self.terminals - l.next
