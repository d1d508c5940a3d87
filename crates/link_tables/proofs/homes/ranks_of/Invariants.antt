use Rattle.std.proofs.Common.{◌≡◌, map, take}
use Rattle.std.specs.List.{flat_map}
use Rattle.tx_code.specs.Objects.{bytes_of}
use Rattle.link_faults.specs.Ranks.{rank_of}
use Rattle.link_tables.specs.Homes.{home_view, names_at}
use Rattle.link_tables.proofs.homes.ranks_of.Given as goal

abbrev pub invariant-loop-at : goal.invariant-loop-at
invariant-loop-at l = l.ranks.items ≡ map (rank_of (map bytes_of l.all)) (flat_map names_at (map home_view (take l.at-index l.found)))
