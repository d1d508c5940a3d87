use Rattle.std.proofs.Common.{◌≡◌, None, map, drop}
use Rattle.code_walk.specs.Slots.{slot_of, table_in, view_in}
use Rattle.code_verify.specs.Faults.{first_of_rows}
use Rattle.code_verify.proofs.faults.first_of_rows.Given as goal

abbrev pub invariant-loop-row : goal.invariant-loop-row
invariant-loop-row l = first_of_rows (table_in l.judged) (view_in l.judged) (map (slot_of l.nests) l.slots) None l.judged.body.now.rows.items
    ≡ first_of_rows (table_in l.judged) (view_in l.judged) (map (slot_of l.nests) l.slots) l.first (drop l.row-index l.judged.body.now.rows.items)
