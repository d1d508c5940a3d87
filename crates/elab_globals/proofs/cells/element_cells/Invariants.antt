use Rattle.std.proofs.Common.{◌≡◌, ◌++◌, ◌-◌, map}
use Rattle.elab_rules.specs.cpp_tree.Units.{cell_of}
use Rattle.elab_rules.specs.Globals.{repeated_cells}
use Rattle.elab_globals.proofs.cells.element_cells.Given as goal

abbrev pub invariant-loop-i : goal.invariant-loop-i
invariant-loop-i l = map cell_of l.cells.items ++ repeated_cells l.offset l.stride (l.count - l._i) (map cell_of l.others)
    ≡ repeated_cells 0 l.stride l.count (map cell_of l.others)
