use Rattle.std.proofs.Common.{◌≡◌, ◌++◌, drop, map}
use Rattle.cpp_tree.specs.Units.{global_of, unit_of}
use Rattle.src_bind.specs.Defs.{defs_of}
use Rattle.src_bind.specs.Globals.{global_addresses}
use Rattle.src_bind.proofs.globals.global_addresses.Given as goal

abbrev pub invariant-loop-i : goal.invariant-loop-i
invariant-loop-i l = l.addresses.items ++ global_addresses (defs_of l.kept) l.offsets l.unit l.i (map global_of (drop l.i l.tree.globals.items))
    ≡ global_addresses (defs_of l.kept) l.offsets l.unit 0 (unit_of l.tree).globals
