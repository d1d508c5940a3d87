use Rattle.std.proofs.Common.{◌≡◌, ◌++◌, drop, map}
use Rattle.cpp_tree.specs.Units.{cell_of, global_of}
use Rattle.src_mean.specs.Links.{cells_at}
use Rattle.src_bind.specs.Bounds.{given}
use Rattle.src_bind.specs.Tables.{typed, linked_of}
use Rattle.src_link.proofs.cells.add_cells.Given as goal

abbrev pub invariant-loop-cell : goal.invariant-loop-cell
invariant-loop-cell l = l.cells.items ++ cells_at (typed (given l.bound)) (linked_of (given l.bound)) l.unit l.offset
    (map cell_of (drop l.cell-index l.global.init.items)) ≡ l.initial.cells.items
    ++ cells_at (typed (given l.bound)) (linked_of (given l.bound)) l.unit l.offset (global_of l.global).init
