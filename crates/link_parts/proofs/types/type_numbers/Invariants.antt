use Rattle.std.proofs.Common.{◌≡◌, map, take}
use Rattle.std.specs.List.{flat_map}
use Rattle.tx_code.specs.Objects.{bytes_of}
use Rattle.link_tables.specs.Homes.{home_view, names_at}
use Rattle.link_parts.specs.Types.{number_in}
use Rattle.link_parts.proofs.types.type_numbers.Given as goal

abbrev pub invariant-loop-home : goal.invariant-loop-home
invariant-loop-home l = l.numbers.items ≡ map (number_in (map bytes_of l.types)) (flat_map names_at (map home_view (take l.home-index l.homes)))
