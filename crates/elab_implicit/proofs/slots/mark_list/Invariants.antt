use Rattle.std.proofs.Common.{◌≡◌, drop, map}
use Rattle.elab_entry.specs.cpp_tree.Units.{slot_of}
use Rattle.elab_implicit.specs.Marks.{slots_marked}
use Rattle.elab_implicit.proofs.slots.mark_list.Given as goal

abbrev pub invariant-loop-slot : goal.invariant-loop-slot
invariant-loop-slot l = slots_marked l.funcs l.marks.items (map slot_of (drop l.slot-index l.slots))
    ≡ slots_marked l.funcs l.fn.marks.items (map slot_of l.slots)
