use Rattle.std.proofs.Common.{◌≡◌, ◌++◌, Some, None, map, refl, sym, ap, ◌∙◌}
use Rattle.std.specs.Option.{option_map}
use Rattle.tx_code.specs.Shapes.{outgoing}
use Rattle.code_walk.specs.Bodies.{falls_to, lands_in, given_on}
use Rattle.code_walk.specs.ShapeViews.{shape_of}
use Rattle.code_walk.specs.Slots.{slot_of, targets_of, table_in}
use Rattle.code_walk.specs.RowTrees.{rows_of}
use Rattle.code_walk.proofs.SlotNotes.{slots_fit, still_steps, gave}
use Rattle.code_walk.proofs.RowNotes.{right_slots, right_noted}
use Rattle.code_walk.proofs.walk.give_on.Goals as goal

pub note_falls-requires-clause-slots : goal.note_falls-requires-clause-slots
note_falls-requires-clause-slots c = slots_fit c.args.nests.now c.outgoing.new.nests c.in_ok-outgoing.ensures.more c.args.slots.now c.requires.slots

pub note_rows-requires-clause-right : goal.note_rows-requires-clause-right
note_rows-requires-clause-right c =
    let t = c.outgoing.new.nests in
    right_noted t (map (slot_of t) c.args.slots.now) (map (slot_of t) c.note_falls.new.slots)
    (falls_to (targets_of c.targets_at.result) (shape_of t c.in-Some.next)) c.args.rows.now c.in_ok-note_falls-in-Some.ensures.slots
    (right_slots c.args.nests.now t c.args.slots.now c.in_ok-outgoing.ensures.more c.requires.slots c.args.rows.now c.requires.right)

pub returns-in-None-clause-steps : goal.returns-in-None-clause-steps
returns-in-None-clause-steps c =
    let s = shape_of c.args.nests.now c.args.shape in
    let e : None ≡ outgoing (table_in c.args.judged) c.args.judged.gives c.args.instr s = sym (ap (option_map (shape_of c.outgoing.new.nests)) c.in-None.is)
    ∙ c.in_ok-outgoing.ensures.is in
    still_steps c.args.nests.now c.outgoing.new.nests c.args.slots.now c.in_ok-outgoing.ensures.more c.requires.slots _
    (ap (λ o. given_on o c.args.instr (rows_of c.args.rows.now) c.args.index s) e)

pub returns-in-None-clause-rows : goal.returns-in-None-clause-rows
returns-in-None-clause-rows c =
    record {
      right =
          right_slots c.args.nests.now c.outgoing.new.nests c.args.slots.now c.in_ok-outgoing.ensures.more c.requires.slots c.args.rows.now c.requires.right;
      rows =
          refl;
    }

pub returns-in_ok-note_rows-in-Some-clause-steps : goal.returns-in_ok-note_rows-in-Some-clause-steps
returns-in_ok-note_rows-in-Some-clause-steps c =
    let s = shape_of c.args.nests.now c.args.shape in
    let u = shape_of c.outgoing.new.nests c.in-Some.next in
    let e : Some u ≡ outgoing (table_in c.args.judged) c.args.judged.gives c.args.instr s = sym (ap (option_map (shape_of c.outgoing.new.nests)) c.in-Some.is)
    ∙ c.in_ok-outgoing.ensures.is in
    gave c.args.nests.now c.outgoing.new.nests c.args.slots.now c.note_falls.new.slots c.note_rows.new.slots c.args.shape (targets_of c.targets_at.result)
    (rows_of c.args.rows.now) c.args.index c.in-Some.next
    c.in_ok-outgoing.ensures.more c.requires.slots c.requires.shape c.in_ok-note_falls-in-Some.ensures c.in_ok-note_rows-in-Some.ensures.notes _
    (ap (λ js. falls_to js u ++ lands_in (rows_of c.args.rows.now) c.args.index s) c.targets_at.ensures
    ∙ ap (λ o. given_on o c.args.instr (rows_of c.args.rows.now) c.args.index s) e)

pub returns-in_ok-note_rows-in-Some-clause-rows : goal.returns-in_ok-note_rows-in-Some-clause-rows
returns-in_ok-note_rows-in-Some-clause-rows c = record { right = c.in_ok-note_rows-in-Some.ensures.right; rows = c.in_ok-note_rows-in-Some.ensures.rows }
