use Rattle.std.proofs.Common.{◌≡◌, ◌++◌, ◌&&◌, map, filter, take}
use Rattle.tx_code.specs.Objects.{bytes_of, global_view, object_view}
use Rattle.tx_code.specs.WellFormed.{same}
use Rattle.tx_code.specs.Linked.{is_defined_global, is_string}
use Rattle.link_tables.specs.Homes.{home_view}
use Rattle.link_tables.specs.Found.{global_row, row_of_global}
use Rattle.link_tables.proofs.found.add_globals.Given as goal

abbrev pub invariant-loop-global : goal.invariant-loop-global
invariant-loop-global l = map global_row l.found.items ≡ map global_row l.fn.found.items
    ++ map (row_of_global (map bytes_of l.all) (home_view l.home))
    (filter (λ g. is_defined_global g && same l.literals (is_string (object_view l.home.object.now) g))
    (map global_view (take l.global-index l.home.object.now.globals.items)))
