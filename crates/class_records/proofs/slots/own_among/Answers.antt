use Rattle.std.proofs.Common.{◌∙◌, ◌++◌, List, map, ap}
use Rattle.cpp_types.specs.Class.{function_of}
use Rattle.class_records.specs.Own.{declared_at}
use Rattle.class_records.proofs.OwnPlaces.{own_at}
use Rattle.class_records.proofs.slots.own_among.Goals as goal

pub loop-place-init : goal.loop-place-init
loop-place-init c = ap (λ z. map function_of z ++ declared_at c.args.funcs.now c.of_class-members.result.now) c.new-list.ensures.items
    ∙ own_at c.args.class c.args.funcs.now c.of_class-members.result.now c.of_class-members.ensures
