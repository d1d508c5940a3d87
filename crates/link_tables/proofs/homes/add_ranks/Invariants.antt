use Rattle.std.proofs.Common.{◌≡◌, ◌++◌, map, take}
use Rattle.tx_code.specs.Objects.{bytes_of}
use Rattle.link_faults.specs.Ranks.{rank_of}
use Rattle.link_tables.proofs.homes.add_ranks.Given as goal

abbrev pub invariant-loop-name : goal.invariant-loop-name
invariant-loop-name l = l.ranks.items ≡ l.fn.ranks.items ++ map (rank_of (map bytes_of l.all)) (map bytes_of (take l.name-index l.at.object.now.names.items))
