use Rattle.body_notes.proofs.Behind.{back_by}
use Rattle.body_notes.proofs.calls.back.Goals as goal

pub returns-clause-is : goal.returns-clause-is
returns-clause-is c m a =
    let landed = c.in_ok-_rank.ensures.grows _ m a in
    back_by c.args.body.now m c.args.notes.now _ _ _ _ _ _ _ _ _ (c.in_ok-first.ensures.is m (c.in_ok-ahead.ensures.grows _ m landed)) (c.in_ok-ahead.ensures.is m landed) c.in_ok-_short.ensures.sum c.in_ok-_short.ensures.short (c.in_ok-_rank.ensures.is m a)
