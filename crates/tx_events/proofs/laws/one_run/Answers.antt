use Rattle.std.proofs.Common.{ap}
use Rattle.tx_events.proofs.OneReplay.{same_outcome, same_run}
use Rattle.tx_events.proofs.laws.one_run.Goals as goal

pub returns-clause-outcome : goal.returns-clause-outcome
returns-clause-outcome g c = λ p s m run other. same_outcome g.A.Actor.thread p s m run other

pub returns-clause-accessed : goal.returns-clause-accessed
returns-clause-accessed g c = λ p s m run other. ap (λ i. i.accessed) (same_run g.A.Actor.thread p s m run other)

pub returns-clause-stored : goal.returns-clause-stored
returns-clause-stored g c = λ p s m run other. ap (λ i. i.stored) (same_run g.A.Actor.thread p s m run other)
