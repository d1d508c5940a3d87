use Rattle.std.proofs.Common.{◌≡◌, ◌++◌, map, take}
use Rattle.link_parts.specs.Parts.{cell_told}
use Rattle.link_parts.proofs.parts.add_cells.Given as goal

abbrev pub invariant-loop-cell : goal.invariant-loop-cell
invariant-loop-cell l = l.cells.items ≡ l.fn.cells.items
    ++ map (cell_told l.numbers l.found.home.start l.place) (take l.cell-index l.found.global.now.cells.items)
