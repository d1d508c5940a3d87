use Rattle.std.proofs.Common.{◌≡◌, drop}
use Rattle.tx_code.specs.WellFormed.{ascends, line_after}
use Rattle.object_check.specs.Order.{ascends_behind}
use Rattle.object_check.proofs.order.lines_ascend.Given as goal

abbrev pub invariant-loop-line : goal.invariant-loop-line
invariant-loop-line l = ascends line_after l.lines ≡ ascends_behind line_after l.before (drop l.line-index l.lines)
