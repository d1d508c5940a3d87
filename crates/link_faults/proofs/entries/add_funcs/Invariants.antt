use Rattle.std.proofs.Common.{◌≡◌, ◌++◌, map, take}
use Rattle.tx_code.specs.Objects.{bytes_of, object_view, func_view}
use Rattle.link_faults.specs.Faults.{func_entry}
use Rattle.link_faults.specs.Ranked.{ranked}
use Rattle.link_faults.proofs.entries.add_funcs.Given as goal

abbrev pub invariant-loop-func : goal.invariant-loop-func
invariant-loop-func l = l.entries.items ≡ l.fn.entries.items
    ++ map (ranked (map bytes_of l.all)) (map (func_entry (object_view l.object)) (map func_view (take l.func-index l.object.funcs.items)))
