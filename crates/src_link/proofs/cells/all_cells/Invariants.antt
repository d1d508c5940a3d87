use Rattle.std.proofs.Common.{◌≡◌, ◌++◌, drop}
use Rattle.src_mean.specs.Links.{all_cells}
use Rattle.src_bind.specs.Bounds.{given}
use Rattle.src_bind.specs.Defs.{defs_of}
use Rattle.src_bind.specs.Tables.{typed, linked_of}
use Rattle.src_link.proofs.cells.all_cells.Given as goal

abbrev pub invariant-loop-i : goal.invariant-loop-i
invariant-loop-i l = l.cells.items ++ all_cells (typed (given l.bound)) (linked_of (given l.bound)) (defs_of (drop l.i l.kept)) (drop l.i l.offsets)
    ≡ all_cells (typed (given l.bound)) (linked_of (given l.bound)) (defs_of l.kept) l.offsets
