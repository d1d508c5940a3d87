use Rattle.fold_events.proofs.Lagging.{same_events, no_more_steps}
use Rattle.fold_events.proofs.laws.leaving_out.Goals as goal

pub returns-clause-same : goal.returns-clause-same
returns-clause-same g c = λ shown s r next on lag. same_events g.A.Actor.thread shown g.B.Actor.thread next on s r lag

pub returns-clause-no_more : goal.returns-clause-no_more
returns-clause-no_more g c = λ shown s r next on lag. no_more_steps g.A.Actor.thread shown g.B.Actor.thread next on s r lag
