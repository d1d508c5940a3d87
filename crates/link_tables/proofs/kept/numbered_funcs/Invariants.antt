use Rattle.std.proofs.Common.{◌≡◌, map, take, length}
use Rattle.link_tables.specs.Found.{func_row, func_symbol_of, numbered}
use Rattle.link_tables.proofs.kept.numbered_funcs.Given as goal

abbrev pub invariant-loop-func : goal.invariant-loop-func
invariant-loop-func l = (l.defs.items ≡ numbered 0 (map func_symbol_of (map func_row (take l.func-index l.kept)))) × (length l.defs.items ≡ l.func-index)
