use Rattle.symbolic_leaving.specs.Source.{units_of}
use Rattle.note_landing.specs.Shown.{func_by}
use Rattle.note_landing.proofs.Flown.{replied_as}
use Rattle.note_landing.proofs.flights.behind_reply.Goals as goal

pub returns-clause-is : goal.returns-clause-is
returns-clause-is c m a =
    let replied = c.in_ok-outcome.ensures.grows _ m a in
    let later = c.in_ok-reply.ensures.grows _ m replied in
    replied_as c.args.body.now m _ _ _ _ _ (c.in_ok-later.ensures.temporaries _ m (units_of c.args.body.now.source) later) (c.in_ok-later.ensures.frames _ m (units_of c.args.body.now.source) (func_by c.args.body.now) later) (c.in_ok-reply.ensures.is _ m replied) (c.in_ok-outcome.ensures.is m a)
