use Rattle.std.proofs.Common.{◌≡◌, true, length, map}
use Rattle.std.specs.List.{list_all}
use Rattle.code_walk.specs.Walk.{steps, start}
use Rattle.code_walk.specs.Slots.{slot_of, slot_fits, space_in}
use Rattle.code_walk.specs.RowTrees.{rows_of, Right}
use Rattle.code_walk.proofs.walk.walk.Given as goal

abbrev pub invariant-steps : goal.invariant-steps
invariant-steps l = record {
  slots : map (slot_of l.nests) l.slots ≡ steps (space_in l.judged) l.counter (start (space_in l.judged));
  fit : list_all (slot_fits l.nests) l.slots ≡ true;
  count : length l.slots ≡ length l.judged.body.now.code.items;
  right : Right l.nests (map (slot_of l.nests) l.slots) l.rows;
  body : rows_of l.rows ≡ l.judged.body.now.rows.items;
}
