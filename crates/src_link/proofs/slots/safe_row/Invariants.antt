use Rattle.std.proofs.Common.{◌≡◌, ◌++◌, drop, map}
use Rattle.cpp_tree.specs.Arena.{trees_of}
use Rattle.cpp_tree.specs.Units.{func_of, unit_of, program_of}
use Rattle.tx_safety.specs.Answers.{checked_in}
use Rattle.src_link.specs.Slots.{safe_row}
use Rattle.src_link.proofs.slots.safe_row.Given as goal

abbrev pub invariant-loop-i : goal.invariant-loop-i
invariant-loop-i l = l.row.items ++ safe_row (program_of (checked_in l.safe)) l.unit l.i
    (map (func_of (trees_of l.tree.nodes.items)) (drop l.i l.tree.funcs.items)) ≡ safe_row (program_of (checked_in l.safe)) l.unit 0 (unit_of l.tree).funcs
