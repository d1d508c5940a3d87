use Rattle.tx_runtime.proofs.RuntimeViews.{holds_of}
use Rattle.tx_runtime.proofs.runtime.Runtime.holders.Goals as goal

pub returns : goal.returns
returns g c = holds_of g.A.Actor.state g.A.Actor.saved_state c.args.self.now.engine
