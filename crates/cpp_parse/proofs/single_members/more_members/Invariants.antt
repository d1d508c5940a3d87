use Rattle.std.proofs.Common.{◌≡◌, ◌-◌, None, length}
use Rattle.cpp_syntax.specs.Terminals.{comma}
use Rattle.cpp_syntax.specs.Rules.{◌·◌, word, form, listed_member}
use Rattle.cpp_syntax.proofs.ReaderLoops.{ReadsChain}
use Rattle.cpp_parse.proofs.single_members.more_members.Given as goal

abbrev pub invariant-items : goal.invariant-items
invariant-items l = (x : ReadsChain l.text (word comma · form listed_member) (word comma · form listed_member) l.at l.next l.fn.out l.out) × (x.marked ≡ None)

abbrev pub decreases-items : goal.decreases-items
decreases-items l = length l.text.terminals - l.next
