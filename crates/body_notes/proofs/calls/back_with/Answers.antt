use Rattle.note_landing.specs.Shown.{types_by}
use Rattle.body_notes.proofs.Behind.{back_with_as}
use Rattle.body_notes.proofs.calls.back_with.Goals as goal

pub returns-clause-is : goal.returns-clause-is
returns-clause-is c m a =
    let types = types_by c.args.body.now in
    let there = c.in_ok-back.ensures.grows types m a in
    let before = c.in_ok-outcome.ensures.grows types m there in
    back_with_as c.args.body.now m c.args.notes.now _ _ _ _ _ _ _ _ (c.in_ok-facts.ensures.is types m (c.in_ok-there.ensures.grows types m before)) (c.in_ok-there.ensures.is types m before) (c.in_ok-outcome.ensures.is m there) (c.in_ok-back.ensures.is m a)
