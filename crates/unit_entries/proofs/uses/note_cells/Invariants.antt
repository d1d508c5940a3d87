use Rattle.std.proofs.Common.{◌≡◌, drop, map}
use Rattle.cpp_tree.specs.Units.{cell_of, unit_of}
use Rattle.unit_entries.specs.Uses.{noted_cells}
use Rattle.unit_entries.specs.Marked.{marks_in}
use Rattle.unit_entries.proofs.uses.note_cells.Given as goal

abbrev pub invariant-loop-cell : goal.invariant-loop-cell
invariant-loop-cell l = noted_cells (unit_of l.unit) (map cell_of (drop l.cell-index l.cells)) (marks_in l.uses)
    ≡ noted_cells (unit_of l.unit) (map cell_of l.cells) (marks_in l.initial.uses)
