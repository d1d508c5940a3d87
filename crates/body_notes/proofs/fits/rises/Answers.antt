use Rattle.note_landing.specs.Shown.{types_by}
use Rattle.body_notes.proofs.Fitting.{rises_as}
use Rattle.body_notes.proofs.fits.rises.Goals as goal

pub returns-clause-is : goal.returns-clause-is
returns-clause-is c m a =
    let types = types_by c.args.body.now in
    let there = c.in_ok-flies.ensures.grows types m a in
    let before = c.in_ok-unknown.ensures.grows types m there in
    let earlier = c.in_ok-outcome.ensures.grows types m before in
    rises_as c.args.body.now m c.args.notes.now _ _ _ _ _ c.args.rest _ _ _ (c.in_ok-facts.ensures.is types m (c.in_ok-place.ensures.grows types m earlier)) (c.in_ok-place.ensures.is types m earlier) (c.in_ok-outcome.ensures.is m before) (c.in_ok-unknown.ensures.is types m there) (c.in_ok-flies.ensures.is m a)
