use Rattle.std.proofs.Common.{◌≡◌, ◌<◌, true, length, map, set, refl, sym, ap, ◌∙◌, subst, arith}
use Rattle.std.specs.List.{list_all}
use Rattle.code_walk.specs.Walk.{note_all, lowest, step_at}
use Rattle.code_walk.specs.ShapeViews.{shape_of}
use Rattle.code_walk.specs.Slots.{slot_of, slot_fits, tested, table_in, signature_in, view_in, space_in, Steps}
use Rattle.code_walk.specs.Waiting.{looked_slot}
use Rattle.code_walk.specs.RowTrees.{Right}
use Rattle.code_walk.proofs.SlotNotes.{length_map, mark_is, mark_fit, looked_none, looked_some}
use Rattle.code_walk.proofs.RowNotes.{right_seen}
use Rattle.code_walk.proofs.walk.advance.Goals as goal

pub give-requires-clause-slots : goal.give-requires-clause-slots
give-requires-clause-slots c =
    let j = c.args.judged in
    subst (λ z. list_all (slot_fits c.args.nests.now) z ≡ true) (sym c.in-Some.ensures.looked)
    (mark_fit (table_in j) (signature_in j) (view_in j) c.args.nests.now c.args.slots.now c.in-Some.looked.index c.in-Some.looked.slot
    c.in-Some.ensures.within c.in-Some.ensures.slot c.requires.slots)

pub give-requires-clause-right : goal.give-requires-clause-right
give-requires-clause-right c =
    let j = c.args.judged in
    let t = c.args.nests.now in
    let a = c.args.slots.now in
    let i = c.in-Some.looked.index in
    let w : c.in-Some.looked.index < length (map (slot_of c.args.nests.now) c.args.slots.now) =
    omega (arith, c.in-Some.ensures.within, length_map (slot_of t) a) in
    subst (λ z. Right t z c.args.rows.now) (sym (ap (map (slot_of t)) c.in-Some.ensures.looked ∙ mark_is (table_in j) (signature_in j)
    (view_in j) t a i c.in-Some.looked.slot c.in-Some.ensures.within c.in-Some.ensures.slot))
    (right_seen t (map (slot_of t) a) i c.args.rows.now w c.requires.right)

pub returns-in-None-shape-clause-steps : goal.returns-in-None-shape-clause-steps
returns-in-None-shape-clause-steps c =
    let j = c.args.judged in
    let t = c.args.nests.now in
    let a = c.args.slots.now in
    let i = c.in-Some.looked.index in
    let d = c.in-Some.looked.slot in
    subst (λ z. Steps t t a z (step_at (space_in j) (map (slot_of t) a) (lowest 0 (map (slot_of t) a)))) (sym c.in-Some.ensures.looked)
    (subst (λ z. Steps t t a (set a i (looked_slot d)) z) (sym (ap (step_at (space_in j) (map (slot_of t) a)) (c.in-Some.ensures.lowest t)))
    (looked_none (table_in j) (signature_in j) (view_in j) t a i d c.in-Some.ensures.within c.in-Some.ensures.slot c.requires.slots (sym c.in-None-shape.is)))

pub returns-in-None-shape-clause-rows : goal.returns-in-None-shape-clause-rows
returns-in-None-shape-clause-rows c =
    let j = c.args.judged in
    let t = c.args.nests.now in
    let a = c.args.slots.now in
    let i = c.in-Some.looked.index in
    let w : c.in-Some.looked.index < length (map (slot_of c.args.nests.now) c.args.slots.now) =
    omega (arith, c.in-Some.ensures.within, length_map (slot_of t) a) in
    record {
      right = subst (λ z. Right t z c.args.rows.now) (sym
          (ap (map (slot_of t)) c.in-Some.ensures.looked
          ∙ mark_is (table_in j) (signature_in j) (view_in j) t a i c.in-Some.looked.slot c.in-Some.ensures.within c.in-Some.ensures.slot))
          (right_seen t (map (slot_of t) a) i c.args.rows.now w c.requires.right);
      rows = refl;
    }

pub returns-in_ok-give-in-Some-shape-clause-steps : goal.returns-in_ok-give-in-Some-shape-clause-steps
returns-in_ok-give-in-Some-shape-clause-steps c =
    let j = c.args.judged in
    let t = c.args.nests.now in
    let a = c.args.slots.now in
    let i = c.in-Some.looked.index in
    let d = c.in-Some.looked.slot in
    let s = c.in-Some-shape.shape in
    let st = subst (λ z. Steps t c.give.new.nests z c.give.new.slots
    (note_all tested (map (slot_of t) z) ((space_in j).gives i (shape_of t s)))) c.in-Some.ensures.looked c.in_ok-give-in-Some-shape.ensures.steps in
    subst (λ z. Steps t c.give.new.nests a c.give.new.slots z) (sym (ap (step_at (space_in j) (map (slot_of t) a)) (c.in-Some.ensures.lowest t)))
    (looked_some (table_in j) (signature_in j) (view_in j) t a i d c.in-Some.ensures.within c.in-Some.ensures.slot c.give.new.nests c.give.new.slots s
    (sym c.in-Some-shape.is) st)
