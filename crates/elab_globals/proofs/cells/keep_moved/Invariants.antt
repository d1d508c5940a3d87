use Rattle.std.proofs.Common.{◌≡◌, ◌++◌, drop, map}
use Rattle.elab_rules.specs.cpp_tree.Units.{cell_of}
use Rattle.elab_rules.specs.Globals.{moved_cells}
use Rattle.elab_globals.proofs.cells.keep_moved.Given as goal

abbrev pub invariant-loop-other : goal.invariant-loop-other
invariant-loop-other l = map cell_of l.cells.items ++ moved_cells l.by (map cell_of (drop l.other-index l.others)) ≡ map cell_of l.initial.cells.items
    ++ moved_cells l.by (map cell_of l.others)
