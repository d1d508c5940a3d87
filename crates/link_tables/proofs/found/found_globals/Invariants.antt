use Rattle.std.proofs.Common.{◌≡◌, map, take}
use Rattle.std.specs.List.{flat_map}
use Rattle.tx_code.specs.Objects.{bytes_of}
use Rattle.link_tables.specs.Homes.{home_view}
use Rattle.link_tables.specs.Found.{global_row, globals_in}
use Rattle.link_tables.proofs.found.found_globals.Given as goal

abbrev pub invariant-loop-home : goal.invariant-loop-home
invariant-loop-home l = map global_row l.found.items ≡ flat_map (globals_in (map bytes_of l.all)) (map home_view (take l.home-index l.homes))
