use Rattle.std.proofs.Common.{◌≡◌, drop, map}
use Rattle.std.specs.List.{list_any}
use Rattle.cpp_types.specs.Class.{classes_of}
use Rattle.elab_init.specs.cpp_tree.Units.{SlotFunc, slot_of}
use Rattle.elab_init.specs.elab_rules.Classes.{is_final_destructor, slot_function}
use Rattle.class_records.proofs.closing.has_final_destructor.Given as goal

abbrev pub invariant-loop-slot : goal.invariant-loop-slot
invariant-loop-slot l = list_any (λ (s : SlotFunc). is_final_destructor (slot_function (classes_of l.classes) s)) (map slot_of l.slots)
    ≡ list_any (λ (s : SlotFunc). is_final_destructor (slot_function (classes_of l.classes) s)) (map slot_of (drop l.slot-index l.slots))
