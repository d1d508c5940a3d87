use Rattle.std.proofs.Common.{◌≡◌, ℕ, ◌-◌, length}
use Rattle.cpp_syntax.specs.Terminals.{comma}
use Rattle.cpp_syntax.specs.Rules.{by_shape, parameter_declaration, word, ◌·◌, form}
use Rattle.cpp_syntax.proofs.Recognisers.{SpansChain}
use Rattle.cpp_syntax.proofs.outline.Outline.shaped_parameter_list.Given as goal

abbrev pub invariant-items : goal.invariant-items
invariant-items l = SpansChain l.self (form (parameter_declaration by_shape)) (word comma · form (parameter_declaration by_shape)) l.at l.next

abbrev pub decreases-items : goal.decreases-items
decreases-items l = length l.self.terminals - l.next
