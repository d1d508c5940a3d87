-- Each nested list has less depth left.
use Rattle.std.proofs.Common.{◌+◌, ◌-◌, ◌*◌, length}
use Rattle.cpp_syntax.specs.Rules.{form, initializer}
use Rattle.cpp_parse.proofs.TrailingCommas.{ReadsListed}
use Rattle.cpp_parse.proofs.initializers.+initializers.Given as goal

abbrev pub decreases-initializer : goal.decreases-initializer
decreases-initializer l = l.depth_left * 4 + 2

abbrev pub decreases-braced_init_list : goal.decreases-braced_init_list
decreases-braced_init_list l = l.depth_left * 4 + 1

abbrev pub decreases-initializer_list : goal.decreases-initializer_list
decreases-initializer_list l = l.depth_left * 4 + 3

abbrev pub invariant-initializer_list-items : goal.invariant-initializer_list-items
invariant-initializer_list-items l = ReadsListed l.text (form initializer) l.at l.next l.fn.out l.out

abbrev pub decreases-initializer_list-items : goal.decreases-initializer_list-items
decreases-initializer_list-items l = length l.text.terminals - l.next
