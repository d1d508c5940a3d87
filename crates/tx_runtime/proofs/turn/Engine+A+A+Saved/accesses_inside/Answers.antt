use Rattle.std.proofs.Common.{ap, sym, ◌∙◌, arith, Some}
use Rattle.tx_runtime.proofs.StandingThreads.{accesses_past, accesses_open, accesses_undoing, accesses_releasing, accesses_bare}
use Rattle.tx_runtime.proofs.turn.Engine+A+A+Saved.accesses_inside.Goals as goal

pub returns-then-t-len : goal.returns-then-t-len
returns-then-t-len g c = accesses_past g.A.Actor.state g.A.Actor.saved_state g.A.Actor.is_reached g.A.Actor.thread c.args.self.now c.args.t
    (omega (arith, c.if-t-len.true, c.len.ensures, c.args.self.now.threads.ok.0))

pub returns-in-None : goal.returns-in-None
returns-in-None g c =
    accesses_bare g.A.Actor.state g.A.Actor.saved_state g.A.Actor.is_reached g.A.Actor.thread c.args.self.now c.args.t c.index-thread.result.now
    (omega (arith, c.if-t-len.false, c.len.ensures, c.args.self.now.threads.ok.0)) c.index-thread.ensures (sym c.stage.ensures ∙ c.in-None.is)

pub returns-in-Some-Open : goal.returns-in-Some-Open
returns-in-Some-Open g c = c.is_access.ensures
    ∙ accesses_open g.A.Actor.state g.A.Actor.saved_state g.A.Actor.is_reached g.A.Actor.thread c.args.self.now c.args.t c.index-thread.result.now
    (omega (arith, c.if-t-len.false, c.len.ensures, c.args.self.now.threads.ok.0)) c.index-thread.ensures c.next.result
    (sym c.stage.ensures ∙ (c.in-Some-Open.is ∙ ap Some c.in-Some-Open.field-0-is)) c.next.ensures.event

pub returns-in-Some-Undoing : goal.returns-in-Some-Undoing
returns-in-Some-Undoing g c =
    accesses_undoing g.A.Actor.state g.A.Actor.saved_state g.A.Actor.is_reached g.A.Actor.thread c.args.self.now c.args.t c.index-thread.result.now
    (omega (arith, c.if-t-len.false, c.len.ensures, c.args.self.now.threads.ok.0)) c.index-thread.ensures
    (sym c.stage.ensures ∙ (c.in-Some-Undoing.is ∙ ap Some c.in-Some-Undoing.field-0-is))

pub returns-in-Some-Releasing : goal.returns-in-Some-Releasing
returns-in-Some-Releasing g c =
    accesses_releasing g.A.Actor.state g.A.Actor.saved_state g.A.Actor.is_reached g.A.Actor.thread c.args.self.now c.args.t c.index-thread.result.now
    (omega (arith, c.if-t-len.false, c.len.ensures, c.args.self.now.threads.ok.0)) c.index-thread.ensures
    (sym c.stage.ensures ∙ (c.in-Some-Releasing.is ∙ ap Some c.in-Some-Releasing.field-0-is))
