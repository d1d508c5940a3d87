use Rattle.std.proofs.Common.{◌≡◌, drop, map}
use Rattle.cpp_tree.specs.Units.{global_of, unit_of}
use Rattle.src_mean.specs.Links.{global_place}
use Rattle.src_link.proofs.cells.global_place.Given as goal

abbrev pub invariant-loop-i : goal.invariant-loop-i
invariant-loop-i l = global_place l.i l.symbol (map global_of (drop l.i l.unit.globals.items)) ≡ global_place 0 l.symbol (unit_of l.unit).globals
