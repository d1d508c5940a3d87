use Rattle.std.proofs.Common.{◌≡◌, Some, None, ap, ◌∙◌, subst, refl, map, arith}
use Rattle.std.specs.Prelude.{slice_get}
use Rattle.tx_code.specs.Shapes.{outgoing}
use Rattle.code_walk.specs.Walk.{note_all}
use Rattle.code_walk.specs.Bodies.{given_on, given_by}
use Rattle.code_walk.specs.ShapeViews.{shape_of}
use Rattle.code_walk.specs.Slots.{table_in, slot_of, tested, Steps}
use Rattle.code_walk.proofs.SlotNotes.{still_steps}
use Rattle.code_walk.proofs.walk.give.Goals as goal

pub returns-in-None-clause-steps : goal.returns-in-None-clause-steps
returns-in-None-clause-steps c =
    let s = shape_of c.args.nests.now c.args.shape in
    let e : None ≡ slice_get c.args.judged.body.now.code.items c.args.index = c.in-None.ensures ∙ ap (λ z. slice_get z c.args.index) c.deref.ensures.value in
    still_steps c.args.nests.now c.args.nests.now c.args.slots.now (record { more = omega arith; same = λ k l. refl }) c.requires.slots _
    (ap (λ o. given_by (table_in c.args.judged) c.args.judged.gives c.args.judged.body.now.rows.items o c.args.index s) e)

pub returns-in-None-clause-rows : goal.returns-in-None-clause-rows
returns-in-None-clause-rows c = record { right = c.requires.right; rows = refl }

pub returns-in_ok-give_on-in-Some-clause-steps : goal.returns-in_ok-give_on-in-Some-clause-steps
returns-in_ok-give_on-in-Some-clause-steps c =
    let j = c.args.judged in
    let t = c.args.nests.now in
    let a = c.args.slots.now in
    let s = shape_of c.args.nests.now c.args.shape in
    let e : Some c.in-Some.instr ≡ slice_get c.args.judged.body.now.code.items c.args.index = c.in-Some.ensures
    ∙ ap (λ z. slice_get z c.args.index) c.deref.ensures.value in
    let st = subst (λ rs. Steps t c.give_on.new.nests a c.give_on.new.slots
    (note_all tested (map (slot_of t) a) (given_on
    (outgoing (table_in j) j.gives c.in-Some.instr s) c.in-Some.instr rs c.args.index s))) c.requires.body c.in_ok-give_on-in-Some.ensures.steps in
    subst (λ o. Steps t c.give_on.new.nests a c.give_on.new.slots
    (note_all tested (map (slot_of t) a) (given_by (table_in j) j.gives j.body.now.rows.items o c.args.index s))) e st

pub returns-in_ok-give_on-in-Some-clause-rows : goal.returns-in_ok-give_on-in-Some-clause-rows
returns-in_ok-give_on-in-Some-clause-rows c = c.in_ok-give_on-in-Some.ensures.rows
