use Rattle.std.proofs.Common.{rules, arith, length, ◌<◌, ap, sym, ◌∙◌}
use Rattle.std.specs.Prelude.{slice_get}
use Rattle.std.proofs.lemmas.Option.{slice_get-get_or}
use Rattle.note_landing.proofs.Shows.{more_each, each_all}
use Rattle.body_notes.specs.Checked.{NoteBy}
use Rattle.body_notes.proofs.Noted.{all_checked}
use Rattle.body_notes.proofs.whole.all_fit.Goals as goal

pub loop-note-preserved : goal.loop-note-preserved
loop-note-preserved c m a =
    let list = c.deref-note-items.result.now in
    let h : c.loop-note.note-index < length list = omega (arith, ap length c.deref-note-items.ensures.value) in
    more_each (λ x. NoteBy c.args.body.now m c.args.notes.now x) c.args.notes.now.list.items c.loop-note.note-index _ (ap (λ z. slice_get z c.loop-note.note-index) (sym c.deref-note-items.ensures.value) ∙ slice_get-get_or list c.loop-note.note-index _ h) (c.in_ok-note_fits.ensures.is m a) (c.loop-note.invariant m (c.in_ok-note_fits.ensures.grows _ m a))

pub returns : goal.returns
returns c m a = all_checked c.args.body.now m c.args.notes.now (c.in_ok-entry_fits.ensures.is m a) (each_all (λ x. NoteBy c.args.body.now m c.args.notes.now x) c.args.notes.now.list.items c.loop-note.note-index (search rules) (c.loop-note.invariant m (c.in_ok-entry_fits.ensures.grows _ m a)))
