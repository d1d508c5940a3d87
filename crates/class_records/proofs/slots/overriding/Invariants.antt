use Rattle.std.proofs.Common.{◌≡◌, ◌++◌, drop, map}
use Rattle.cpp_types.specs.Class.{classes_of, function_of}
use Rattle.elab_init.specs.cpp_tree.Units.{slot_of as slot_shown}
use Rattle.elab_init.specs.elab_rules.Classes.{overriding}
use Rattle.class_records.proofs.slots.overriding.Given as goal

abbrev pub invariant-loop-slot : goal.invariant-loop-slot
invariant-loop-slot l = map slot_shown l.list.items ++ overriding (classes_of l.classes) l.class (map function_of l.functions)
    (map slot_shown (drop l.slot-index l.slots)) ≡ overriding (classes_of l.classes) l.class (map function_of l.functions) (map slot_shown l.slots)
