use Rattle.std.proofs.Common.{◌≡◌, ◌++◌, map, filter, take}
use Rattle.tx_code.specs.Objects.{bytes_of, func_view}
use Rattle.tx_code.specs.WellFormed.{is_defined}
use Rattle.link_tables.specs.Homes.{home_view}
use Rattle.link_tables.specs.Found.{func_row, row_of_func}
use Rattle.link_tables.proofs.found.add_funcs.Given as goal

abbrev pub invariant-loop-func : goal.invariant-loop-func
invariant-loop-func l = map func_row l.found.items ≡ map func_row l.fn.found.items
    ++ map (row_of_func (map bytes_of l.all) (home_view l.home)) (filter is_defined (map func_view (take l.func-index l.home.object.now.funcs.items)))
