use Rattle.std.proofs.Common.{arith, sym, refl, length}
use Rattle.std.proofs.lemmas.Bool.{ltb-true}
use Rattle.std.proofs.lemmas.Option.{slice_get_read}
use Rattle.note_landing.specs.Cases.{NeededBy}
use Rattle.note_landing.specs.Shown.{place_by, outcome_by}
use Rattle.note_landing.proofs.Splits.{spelling_more}
use Rattle.note_landing.proofs.cases.+spellings_fit.Goals as goal

pub returns-clause-is : goal.returns-clause-is
returns-clause-is t c m a =
    let list = c.args.body.now.spellings.now in
    let there = slice_get_read list (length list) _ c.in-Some.text.now refl (ltb-true _ (length list) (sym c.in-Some.ensures.lookup.0)) c.in-Some.ensures.lookup.1 in
    spelling_more (NeededBy c.args.body.now m c.args.notes.now c.args.unknown (place_by c.args.body.now m c.args.place) (outcome_by c.args.body.now m c.args.outcome)) list _ _ c.in-Some.text.now c.deref.result.now (omega arith) there c.deref.ensures.value (c.in_ok-spelling_fits.ensures.is m (c.in_ok-spellings_fit.ensures.grows _ m a)) (c.in_ok-spellings_fit.ensures.is m a)
