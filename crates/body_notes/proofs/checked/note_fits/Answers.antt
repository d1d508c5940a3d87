use Rattle.std.proofs.Common.{rules, arith, ap, sym, refl, length, ◌∙◌}
use Rattle.std.specs.Prelude.{slice_get}
use Rattle.std.proofs.lemmas.Bool.{ltb-true}
use Rattle.std.proofs.lemmas.Option.{slice_get_read}
use Rattle.body_notes.proofs.Noted.{note_as}
use Rattle.body_notes.proofs.checked.note_fits.Goals as goal

pub returns-clause-is : goal.returns-clause-is
returns-clause-is c m a =
    let list = c.deref.result.now in
    let index = c.args.note.now.index in
    let there = slice_get_read list (length list) index c.in-Some.instr.now refl (ltb-true index (length list) (sym c.in-Some.ensures.lookup.0)) c.in-Some.ensures.lookup.1 in
    note_as c.args.body.now m c.args.notes.now c.args.note.now c.in-Some.instr.now _ (ap (λ z. slice_get z index) (sym c.deref.ensures.value) ∙ there) (omega arith) (c.in_ok-outcome.ensures.is m (c.in_ok-step_fits.ensures.grows _ m a)) (sym (c.is_stuck.ensures c.args.body.now m) ∙ search rules) (c.in_ok-step_fits.ensures.is m a)
