use Rattle.std.proofs.Common.{◌≡◌, ◌++◌, take, map}
use Rattle.std.specs.List.{flat_map}
use Rattle.tx_code.specs.Objects.{func_view}
use Rattle.tx_code.specs.WellFormed.{named_by_func}
use Rattle.object_bytes.proofs.naming.add_of_funcs.Given as goal

abbrev pub invariant-loop-func : goal.invariant-loop-func
invariant-loop-func l = l.out.items ≡ l.fn.out.items ++ flat_map named_by_func (map func_view (take l.func-index l.funcs))
