use Rattle.std.proofs.Common.{◌≡◌, ◌-◌, None, length}
use Rattle.cpp_syntax.specs.Terminals.{comma}
use Rattle.cpp_syntax.specs.Rules.{◌·◌, word, form, member_initializer}
use Rattle.cpp_syntax.proofs.ReaderLoops.{ReadsChain}
use Rattle.cpp_parse.proofs.constructors.initializer_list.Given as goal

abbrev pub invariant-items : goal.invariant-items
invariant-items l = (x : ReadsChain l.text (form member_initializer) (word comma · form member_initializer) l.at l.next l.fn.out l.out) × (x.marked ≡ None)

abbrev pub decreases-items : goal.decreases-items
decreases-items l = length l.text.terminals - l.next
