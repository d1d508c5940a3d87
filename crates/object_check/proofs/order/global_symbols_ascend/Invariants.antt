use Rattle.std.proofs.Common.{◌≡◌, drop, map, nat_lt}
use Rattle.tx_code.specs.declared.object.ObjGlobal.{ObjGlobal}
use Rattle.tx_code.specs.WellFormed.{ascends}
use Rattle.object_check.specs.Order.{ascends_behind}
use Rattle.object_check.proofs.order.global_symbols_ascend.Given as goal

abbrev pub invariant-loop-global : goal.invariant-loop-global
invariant-loop-global l = ascends nat_lt (map (λ (g : ObjGlobal). g.symbol) l.globals)
    ≡ ascends_behind nat_lt l.before (map (λ (g : ObjGlobal). g.symbol) (drop l.global-index l.globals))
