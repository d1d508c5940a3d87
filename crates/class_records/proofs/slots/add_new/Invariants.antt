use Rattle.std.proofs.Common.{◌≡◌, ◌++◌, drop, map}
use Rattle.cpp_types.specs.Class.{function_of}
use Rattle.elab_init.specs.cpp_tree.Units.{slot_of as slot_shown}
use Rattle.elab_init.specs.elab_ctx.Ctx.{ctx_of}
use Rattle.elab_init.specs.elab_rules.Classes.{new_slots}
use Rattle.class_members.specs.Shown.{home_of}
use Rattle.class_records.proofs.slots.add_new.Given as goal

abbrev pub invariant-loop-i : goal.invariant-loop-i
invariant-loop-i l = map slot_shown l.list.items ++ new_slots (ctx_of l.env) (home_of l.home).base (home_of l.home).number l.i
    (map function_of (drop l.i l.functions)) ≡ map slot_shown l.fn.list.items
    ++ new_slots (ctx_of l.env) (home_of l.home).base (home_of l.home).number 0 (map function_of l.functions)
