use Rattle.tx_events.proofs.Composition.{same_events_turn, same_children_turn}
use Rattle.tx_events.proofs.laws.same_events_turn.Goals as goal

pub returns-clause-events : goal.returns-clause-events
returns-clause-events g c = λ s r. same_events_turn g.A.Actor.thread g.B.Actor.thread s r

pub returns-clause-children : goal.returns-clause-children
returns-clause-children g c = λ main main'. same_children_turn g.A.Actor.thread g.B.Actor.thread main main'
