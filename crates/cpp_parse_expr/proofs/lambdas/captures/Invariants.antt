use Rattle.std.proofs.Common.{◌≡◌, ◌-◌, length, None}
use Rattle.cpp_syntax.specs.Terminals.{comma}
use Rattle.cpp_syntax.specs.Rules.{◌·◌, word}
use Rattle.cpp_syntax.specs.Grammar.{capture, first_capture}
use Rattle.cpp_syntax.proofs.ReaderLoops.{ReadsChain}
use Rattle.cpp_parse_expr.proofs.lambdas.captures.Given as goal

abbrev pub invariant-captures : goal.invariant-captures
invariant-captures l = (x : ReadsChain l.text first_capture (word comma · capture) l.at l.next l.fn.out l.out) × (x.marked ≡ None)

abbrev pub decreases-captures : goal.decreases-captures
decreases-captures l = length l.text.terminals - l.next
