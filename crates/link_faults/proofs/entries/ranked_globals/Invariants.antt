use Rattle.std.proofs.Common.{◌≡◌, map, take}
use Rattle.tx_code.specs.Objects.{bytes_of, object_view}
use Rattle.link_faults.specs.Faults.{global_entries}
use Rattle.link_faults.specs.Ranked.{ranked}
use Rattle.link_faults.proofs.entries.ranked_globals.Given as goal

abbrev pub invariant-loop-object : goal.invariant-loop-object
invariant-loop-object l = l.entries.items ≡ map (ranked (map bytes_of l.all)) (global_entries (map object_view (take l.object-index l.objects)))
