use Rattle.std.proofs.Common.{◌≡◌, ◌-◌, None, length}
use Rattle.cpp_syntax.specs.Rules.{form, member_declaration}
use Rattle.cpp_syntax.specs.Derivations.{no_read}
use Rattle.cpp_syntax.proofs.ReaderLoops.{ReadsMany}
use Rattle.cpp_parse.proofs.classes.members.Given as goal

abbrev pub invariant-members : goal.invariant-members
invariant-members l = (x : ReadsMany l.text (form member_declaration) l.fn.out no_read l.at l.next l.out) × (x.marked ≡ None)

abbrev pub decreases-members : goal.decreases-members
decreases-members l = length l.text.terminals - l.next
