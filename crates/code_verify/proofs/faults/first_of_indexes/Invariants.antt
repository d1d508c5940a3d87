use Rattle.std.proofs.Common.{◌≡◌, map, drop}
use Rattle.code_walk.specs.Slots.{slot_of, table_in, view_in}
use Rattle.code_verify.specs.Faults.{first_of_indexes}
use Rattle.code_verify.proofs.faults.first_of_indexes.Given as goal

abbrev pub invariant-loop-index : goal.invariant-loop-index
invariant-loop-index l = first_of_indexes (table_in l.judged) l.judged.gives l.judged.safe (view_in l.judged)
    (map (slot_of l.nests) l.slots) 0 l.judged.body.now.code.items
    ≡ first_of_indexes (table_in l.judged) l.judged.gives l.judged.safe (view_in l.judged) (map (slot_of l.nests) l.slots) l.index
    (drop l.index l.judged.body.now.code.items)
