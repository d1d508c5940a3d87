use Rattle.std.proofs.Common.{◌≡◌, drop, map}
use Rattle.cpp_tree.specs.Units.{global_of}
use Rattle.unit_entries.specs.Uses.{global_among}
use Rattle.unit_entries.proofs.uses.global_index.Given as goal

abbrev pub invariant-loop-i : goal.invariant-loop-i
invariant-loop-i l = global_among l.symbol l.i (map global_of (drop l.i l.globals)) ≡ global_among l.symbol 0 (map global_of l.globals)
