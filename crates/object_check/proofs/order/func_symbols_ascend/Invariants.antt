use Rattle.std.proofs.Common.{◌≡◌, drop, map, nat_lt}
use Rattle.tx_code.specs.declared.object.ObjFunc.{ObjFunc}
use Rattle.tx_code.specs.WellFormed.{ascends}
use Rattle.object_check.specs.Order.{ascends_behind}
use Rattle.object_check.proofs.order.func_symbols_ascend.Given as goal

abbrev pub invariant-loop-func : goal.invariant-loop-func
invariant-loop-func l = ascends nat_lt (map (λ (f : ObjFunc). f.symbol) l.funcs)
    ≡ ascends_behind nat_lt l.before (map (λ (f : ObjFunc). f.symbol) (drop l.func-index l.funcs))
