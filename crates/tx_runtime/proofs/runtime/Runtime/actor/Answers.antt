use Rattle.std.proofs.Common.{arith}
use Rattle.tx_runtime.proofs.RuntimeViews.{actor_past, actor_at}
use Rattle.tx_runtime.proofs.runtime.Runtime.actor.Goals as goal

pub returns-then-t-len : goal.returns-then-t-len
returns-then-t-len g c = actor_at g.A.Actor.state g.A.Actor.saved_state c.args.self.now.engine c.args.t c.index.result.now
    (omega (arith, c.if-t-len.true, c.len.ensures, c.args.self.now.engine.threads.ok.0)) c.index.ensures

pub returns-else-t-len : goal.returns-else-t-len
returns-else-t-len g c = actor_past g.A.Actor.state g.A.Actor.saved_state c.args.self.now.engine c.args.t
    (omega (arith, c.if-t-len.false, c.len.ensures, c.args.self.now.engine.threads.ok.0))
