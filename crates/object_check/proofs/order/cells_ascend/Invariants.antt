use Rattle.std.proofs.Common.{◌≡◌, drop}
use Rattle.tx_code.specs.WellFormed.{ascends, cell_after}
use Rattle.object_check.specs.Order.{ascends_behind}
use Rattle.object_check.proofs.order.cells_ascend.Given as goal

abbrev pub invariant-loop-cell : goal.invariant-loop-cell
invariant-loop-cell l = ascends cell_after l.cells ≡ ascends_behind cell_after l.before (drop l.cell-index l.cells)
