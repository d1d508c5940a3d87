use Rattle.tx_events.proofs.OneReplay.{same_replays}
use Rattle.tx_events.proofs.laws.one_replay.Goals as goal

pub returns : goal.returns
returns g c = λ p w v u order. same_replays g.A.Actor.thread p order w v u
