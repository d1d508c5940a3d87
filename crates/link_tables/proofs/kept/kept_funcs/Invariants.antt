use Rattle.std.proofs.Common.{◌≡◌, [], map, take, length}
use Rattle.link_tables.specs.Symbols.{Seen}
use Rattle.link_tables.specs.Found.{func_row, func_symbol_of, kept_rows}
use Rattle.link_tables.proofs.kept.kept_funcs.Given as goal

abbrev pub invariant-loop-func : goal.invariant-loop-func
invariant-loop-func l = (map func_row l.kept.items ≡ kept_rows [] (map func_row (take l.func-index l.found)))
    × Seen (map func_symbol_of (map func_row l.kept.items)) l.seen.items × (length l.seen.items ≡ l.names)
