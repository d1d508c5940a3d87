use Rattle.symbolic_leaving.specs.Source.{units_of}
use Rattle.note_landing.specs.Shown.{func_by}
use Rattle.body_notes.proofs.Fitting.{risen_as}
use Rattle.body_notes.proofs.fits.risen.Goals as goal

pub returns-clause-is : goal.returns-clause-is
returns-clause-is c m a =
    let thrown = c.in_ok-outcome.ensures.grows _ m a in
    let others = c.in_ok-unknown.ensures.grows _ m thrown in
    risen_as c.args.body.now m _ _ _ _ _ (c.in_ok-others.ensures.temporaries _ m (units_of c.args.body.now.source) others) (c.in_ok-others.ensures.frames _ m (units_of c.args.body.now.source) (func_by c.args.body.now) others) (c.in_ok-unknown.ensures.is _ m thrown) (c.in_ok-outcome.ensures.is m a)
