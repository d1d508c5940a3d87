use Rattle.std.proofs.Common.{◌≡◌, ◌++◌, drop, map}
use Rattle.cpp_tree.specs.Units.{unit_of}
use Rattle.src_bind.specs.Defs.{defs_of}
use Rattle.src_bind.specs.Numbers.{rows}
use Rattle.src_bind.specs.Globals.{unit_addresses}
use Rattle.src_bind.proofs.globals.unit_addresses.Given as goal

abbrev pub invariant-loop-i : goal.invariant-loop-i
invariant-loop-i l = rows l.all.items ++ unit_addresses (defs_of l.kept) l.offsets l.i (map unit_of (drop l.i l.program.units.items))
    ≡ unit_addresses (defs_of l.kept) l.offsets 0 (map unit_of l.program.units.items)
