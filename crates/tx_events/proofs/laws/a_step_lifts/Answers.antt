use Rattle.tx_events.proofs.Lifting.{step_lifts}
use Rattle.tx_events.proofs.laws.a_step_lifts.Goals as goal

pub returns : goal.returns
returns g c = λ p main main' t w v threads kids few same step. step_lifts g.A.Actor.thread g.B.Actor.thread main main' p t w threads same kids few v step
