use Rattle.std.proofs.Common.{◌≡◌, Some, drop, map}
use Rattle.cpp_types.specs.Class.{function_of}
use Rattle.elab_init.specs.cpp_tree.Units.{slot_of as slot_shown}
use Rattle.elab_init.specs.elab_rules.Classes.{overrider_from}
use Rattle.class_records.proofs.slots.overrider.Given as goal

abbrev pub invariant-loop-i : goal.invariant-loop-i
invariant-loop-i l = overrider_from l.class 0 (Some (function_of l.over)) (slot_shown l.slot) (map function_of l.functions)
    ≡ overrider_from l.class l.i (Some (function_of l.over)) (slot_shown l.slot) (map function_of (drop l.i l.functions))
