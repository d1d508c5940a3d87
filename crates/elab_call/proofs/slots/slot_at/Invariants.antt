use Rattle.std.proofs.Common.{◌≡◌, map, drop}
use Rattle.elab_make.specs.cpp_tree.Units.{slot_of}
use Rattle.elab_make.specs.elab_rules.Calls.{slot_from}
use Rattle.elab_call.proofs.slots.slot_at.Given as goal

abbrev pub invariant-loop-i : goal.invariant-loop-i
invariant-loop-i l = slot_from 0 l.class l.index (map slot_of l.slots) ≡ slot_from l.i l.class l.index (map slot_of (drop l.i l.slots))
