use Rattle.std.proofs.Common.{◌≡◌, drop, map}
use Rattle.elab_entry.specs.cpp_tree.Units.{slot_of}
use Rattle.elab_implicit.specs.Marks.{all_slots_marked}
use Rattle.elab_implicit.proofs.slots.mark_lists.Given as goal

abbrev pub invariant-loop-list : goal.invariant-loop-list
invariant-loop-list l = all_slots_marked l.funcs l.marks.items (map (λ slots. map slot_of slots.items) (drop l.list-index l.slots))
    ≡ all_slots_marked l.funcs l.fn.marks.items (map (λ slots. map slot_of slots.items) l.slots)
