use Rattle.std.proofs.Common.{◌≡◌, ◌++◌, take}
use Rattle.std.specs.List.{flat_map}
use Rattle.tx_code.specs.WellFormed.{named_by_cell}
use Rattle.object_bytes.proofs.naming.add_of_cells.Given as goal

abbrev pub invariant-loop-cell : goal.invariant-loop-cell
invariant-loop-cell l = l.out.items ≡ l.fn.out.items ++ flat_map named_by_cell (take l.cell-index l.cells)
