use Rattle.std.proofs.Common.{◌≡◌, ◌++◌, drop, map}
use Rattle.cpp_types.specs.Class.{function_of}
use Rattle.elab_init.specs.elab_ctx.Ctx.{func_of}
use Rattle.elab_init.specs.elab_rules.Classes.{own_functions}
use Rattle.class_records.specs.Own.{declared_at}
use Rattle.class_records.proofs.slots.own_among.Given as goal

abbrev pub invariant-loop-place : goal.invariant-loop-place
invariant-loop-place l = map function_of l.list.items ++ declared_at l.funcs (drop l.place-index l.members) ≡ own_functions l.class (map func_of l.funcs)
