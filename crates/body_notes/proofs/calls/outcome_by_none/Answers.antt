use Rattle.body_notes.proofs.Behind.{given_none}
use Rattle.body_notes.proofs.calls.outcome_by_none.Goals as goal

pub returns-clause-is : goal.returns-clause-is
returns-clause-is c m a = given_none c.args.body.now m _ _ _ (c.in_ok-word.ensures.is _ m a) (c.in_ok-outcome.ensures c.args.body.now m)
