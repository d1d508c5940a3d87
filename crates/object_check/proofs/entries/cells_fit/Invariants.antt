use Rattle.std.proofs.Common.{◌≡◌, drop}
use Rattle.std.specs.List.{list_all}
use Rattle.tx_code.specs.WellFormed.{cell_fits}
use Rattle.object_check.proofs.entries.cells_fit.Given as goal

abbrev pub invariant-loop-cell : goal.invariant-loop-cell
invariant-loop-cell l = list_all (cell_fits l.names l.size) l.cells ≡ list_all (cell_fits l.names l.size) (drop l.cell-index l.cells)
