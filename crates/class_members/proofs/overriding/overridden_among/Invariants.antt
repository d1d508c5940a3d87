use Rattle.std.proofs.Common.{◌≡◌, drop, map}
use Rattle.cpp_types.specs.Class.{classes_of, function_of}
use Rattle.elab_init.specs.cpp_tree.Units.{slot_of}
use Rattle.elab_init.specs.elab_rules.Classes.{overridden_from}
use Rattle.class_members.proofs.overriding.overridden_among.Given as goal

abbrev pub invariant-loop-slot : goal.invariant-loop-slot
invariant-loop-slot l = overridden_from (classes_of l.classes) (function_of l.g) (map slot_of l.slots)
    ≡ overridden_from (classes_of l.classes) (function_of l.g) (map slot_of (drop l.slot-index l.slots))
