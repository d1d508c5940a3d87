use Rattle.std.proofs.Common.{rules, ap, sym, refl, ◌∙◌, length}
use Rattle.std.specs.Prelude.{slice_get}
use Rattle.std.proofs.lemmas.Bool.{ltb-true}
use Rattle.std.proofs.lemmas.Option.{slice_get_read}
use Rattle.note_landing.proofs.Landed.{found_as}
use Rattle.note_landing.proofs.landing.rank_at.Goals as goal

pub returns-then-branch-clause-is : goal.returns-then-branch-clause-is
returns-then-branch-clause-is c m a =
    let list = c.deref.result.now in
    let there = slice_get_read list (length list) c.args.at c.in-Some.note.now refl (ltb-true c.args.at (length list) (sym c.in-Some.ensures.lookup.0)) c.in-Some.ensures.lookup.1 in
    found_as c.args.body.now m c.args.notes.now _ _ _ _ _ c.in-Some.note.now (ap (λ z. slice_get z c.args.at) (sym c.deref.ensures.value) ∙ there) (c.in_ok-agrees.ensures.is (search rules) m a)
