use Rattle.std.proofs.Common.{◌≡◌, map, take, length}
use Rattle.std.specs.List.{flat_map}
use Rattle.tx_code.specs.Objects.{object_view}
use Rattle.link_faults.specs.Ranks.{names_of}
use Rattle.link_tables.specs.Homes.{home_view, homes}
use Rattle.link_tables.proofs.homes.homes_of.Given as goal

abbrev pub invariant-loop-object : goal.invariant-loop-object
invariant-loop-object l = (map home_view l.found.items ≡ homes 0 0 (map object_view (take l.object-index l.objects)))
    × (l.start ≡ length (flat_map names_of (map object_view (take l.object-index l.objects))))
