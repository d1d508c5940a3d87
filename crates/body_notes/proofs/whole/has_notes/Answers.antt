use Rattle.body_notes.proofs.Agreeing.{noted_at}
use Rattle.body_notes.proofs.whole.has_notes.Goals as goal

pub returns-in-Ok : goal.returns-in-Ok
returns-in-Ok c told = noted_at c.args.body.now c.in-Some.notes _ c.in-Ok.ensures
