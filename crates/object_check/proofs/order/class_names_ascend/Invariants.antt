use Rattle.std.proofs.Common.{◌≡◌, drop, map, nat_lt}
use Rattle.tx_code.specs.declared.object.ObjClass.{ObjClass}
use Rattle.tx_code.specs.WellFormed.{ascends}
use Rattle.object_check.specs.Order.{ascends_behind}
use Rattle.object_check.proofs.order.class_names_ascend.Given as goal

abbrev pub invariant-loop-class : goal.invariant-loop-class
invariant-loop-class l = ascends nat_lt (map (λ (c : ObjClass). c.name) l.classes)
    ≡ ascends_behind nat_lt l.before (map (λ (c : ObjClass). c.name) (drop l.class-index l.classes))
