use Rattle.tx_events.proofs.OneReplay.{ended_no_step}
use Rattle.tx_events.proofs.laws.no_step_after_end.Goals as goal

pub returns : goal.returns
returns g c = λ p t w v end. ended_no_step g.A.Actor.thread p t w v end
