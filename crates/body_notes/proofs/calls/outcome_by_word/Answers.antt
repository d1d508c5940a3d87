use Rattle.symbolic_leaving.specs.Source.{units_of}
use Rattle.note_landing.specs.Shown.{func_by}
use Rattle.body_notes.proofs.Behind.{given_word}
use Rattle.body_notes.proofs.calls.outcome_by_word.Goals as goal

pub returns-clause-is : goal.returns-clause-is
returns-clause-is c m a =
    let before = c.in_ok-word.ensures.grows _ m a in
    given_word c.args.body.now m _ _ _ _ _ (c.in_ok-later.ensures.temporaries _ m (units_of c.args.body.now.source) before) (c.in_ok-later.ensures.frames _ m (units_of c.args.body.now.source) (func_by c.args.body.now) before) (c.in_ok-word.ensures.is _ m a) (c.in_ok-outcome.ensures c.args.body.now m)
