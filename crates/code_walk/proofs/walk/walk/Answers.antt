use Rattle.std.proofs.Common.{◌≡◌, List, [], ◌∷◌, subst, length, map, replicate, ap, ◌∙◌, arith}
use Rattle.tx_events.specs.Thread.{Open}
use Rattle.tx_code.specs.Shapes as shapes
use Rattle.code_walk.specs.Walk.{given}
use Rattle.code_walk.specs.Nests.{nest}
use Rattle.code_walk.specs.Slots.{slot_of, Notes, table_in, signature_in, view_in}
use Rattle.code_walk.specs.Waiting.{bare_slot}
use Rattle.code_walk.proofs.SlotNotes.{slots_bare, start_slots, start_count}
use Rattle.code_walk.proofs.walk.walk.Goals as goal

pub note-requires-clause-slots : goal.note-requires-clause-slots
note-requires-clause-slots c = slots_bare c.new-nests.result c.len-count.result c.in_ok-slots.slots c.in_ok-slots.ensures

pub steps-init : goal.steps-init
steps-init c =
    let j = c.args.judged in
    let t = c.new-nests.result in
    let n : c.len-count.result ≡ length c.args.judged.body.now.code.items = omega (arith, c.len-count.ensures, j.body.now.code.ok) in
    let e : c.in_ok-slots.slots ≡ replicate (length c.args.judged.body.now.code.items) bare_slot = c.in_ok-slots.ensures ∙ ap (λ z. replicate z bare_slot) n in
    let m = subst (λ (o : List Open). Notes t c.in_ok-slots.slots c.note.new.self (given 0 (shapes.shape j.takes o 0 shapes.Empty) ∷ []))
    (ap (λ (z : List (List Open)). nest z 0) c.new-nests.ensures) c.in_ok-note.ensures in
    record {
      slots = start_slots (table_in j) (signature_in j) (view_in j) t c.in_ok-slots.slots c.note.new.self e m c.requires;
      fit = c.in_ok-note.ensures.fit;
      count = start_count (table_in j) (signature_in j) (view_in j) t c.in_ok-slots.slots c.note.new.self e m;
      right = c.in_ok-rows.ensures.right t (map (slot_of t) c.note.new.self);
      body = c.in_ok-rows.ensures.rows ∙ c.deref.ensures.value;
    }
