use Rattle.std.proofs.Common.{◌≡◌, drop, map}
use Rattle.std.specs.List.{list_all}
use Rattle.tx_code.specs.WellFormed.{func_fits}
use Rattle.tx_code.specs.Objects.{func_view}
use Rattle.object_check.proofs.entries.funcs_fit.Given as goal

abbrev pub invariant-loop-func : goal.invariant-loop-func
invariant-loop-func l = list_all (func_fits l.version l.names) (map func_view l.funcs)
    ≡ list_all (func_fits l.version l.names) (map func_view (drop l.func-index l.funcs))
