use Rattle.std.proofs.Common.{◌≡◌, ◌++◌, map, take}
use Rattle.tx_code.specs.Objects.{bytes_of, object_view, global_view}
use Rattle.link_faults.specs.Faults.{global_entry}
use Rattle.link_faults.specs.Ranked.{ranked}
use Rattle.link_faults.proofs.entries.add_globals.Given as goal

abbrev pub invariant-loop-global : goal.invariant-loop-global
invariant-loop-global l = l.entries.items ≡ l.fn.entries.items
    ++ map (ranked (map bytes_of l.all)) (map (global_entry (object_view l.object)) (map global_view (take l.global-index l.object.globals.items)))
