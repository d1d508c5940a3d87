use Rattle.std.proofs.Common.{rules, ap, sym, refl, length, ◌∙◌}
use Rattle.std.specs.Prelude.{slice_get}
use Rattle.std.proofs.lemmas.Bool.{ltb-true}
use Rattle.std.proofs.lemmas.Option.{slice_get_read}
use Rattle.body_notes.proofs.Noted.{entry_as}
use Rattle.body_notes.proofs.entry.entry_fits.Goals as goal

pub returns-then-branch-clause-is : goal.returns-then-branch-clause-is
returns-then-branch-clause-is c m a =
    let list = c.deref.result.now in
    let there = slice_get_read list (length list) 0 c.in-Some.note.now refl (ltb-true 0 (length list) (sym c.in-Some.ensures.lookup.0)) c.in-Some.ensures.lookup.1 in
    entry_as c.args.body.now m c.args.notes.now _ (ap (λ z. slice_get z 0) (sym c.deref.ensures.value) ∙ there) (c.in_ok-is_entry.ensures.is (search rules) m a)
