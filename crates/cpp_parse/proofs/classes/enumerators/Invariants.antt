use Rattle.std.proofs.Common.{◌-◌, length}
use Rattle.cpp_parse.proofs.Enumerators.{ReadsEnumerators}
use Rattle.cpp_parse.proofs.classes.enumerators.Given as goal

abbrev pub invariant-items : goal.invariant-items
invariant-items l = ReadsEnumerators l.text l.at l.next l.fn.out l.out

abbrev pub decreases-items : goal.decreases-items
decreases-items l = length l.text.terminals - l.next
