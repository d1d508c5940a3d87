use Rattle.note_landing.specs.Shown.{types_by}
use Rattle.body_notes.proofs.Noted.{entry_step}
use Rattle.body_notes.proofs.entry.entry_outcome.Goals as goal

pub returns-clause-is : goal.returns-clause-is
returns-clause-is c m a =
    let before = c.in_ok-stepped.ensures.grows (types_by c.args.body.now) m a in
    entry_step c.args.body.now m _ _ _ _ c.in_ok-none.none c.body_of.result (c.in_ok-stepped.ensures.is m a) (c.in_ok-taken.ensures.is (types_by c.args.body.now) m before) c.in_ok-takes.ensures c.in_ok-keep.ensures c.in_ok-none.ensures c.body_of.ensures
