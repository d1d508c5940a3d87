use Rattle.std.proofs.Common.{◌≡◌, map, take}
use Rattle.tx_code.specs.Linked.{end_of}
use Rattle.link_tables.specs.Found.{global_of_row, global_row, placed}
use Rattle.link_tables.proofs.kept.placed_globals.Given as goal

abbrev pub invariant-loop-global : goal.invariant-loop-global
invariant-loop-global l = (l.defs.items ≡ placed 0 (map global_row (take l.global-index l.found)))
    × (l.number ≡ end_of 0 (map global_of_row (map global_row (take l.global-index l.found))))
