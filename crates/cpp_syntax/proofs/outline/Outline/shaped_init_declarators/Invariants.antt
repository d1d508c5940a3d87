use Rattle.std.proofs.Common.{◌≡◌, ℕ, ◌-◌, length}
use Rattle.cpp_syntax.specs.Terminals.{comma}
use Rattle.cpp_syntax.specs.Rules.{shaped_init_declarator, word, ◌·◌, form}
use Rattle.cpp_syntax.proofs.Recognisers.{SpansChain}
use Rattle.cpp_syntax.proofs.outline.Outline.shaped_init_declarators.Given as goal

abbrev pub invariant-items : goal.invariant-items
invariant-items l = SpansChain l.self (form shaped_init_declarator) (word comma · form shaped_init_declarator) l.at l.next

abbrev pub decreases-items : goal.decreases-items
decreases-items l = length l.self.terminals - l.next
