use Rattle.std.proofs.Common.{ap, sym, ◌∙◌, arith, Some}
use Rattle.tx_runtime.proofs.StandingThreads.{still_past, still_ended, stands_outside, stands_inside, stands_undoing, stands_releasing}
use Rattle.tx_runtime.proofs.turn.Engine+A+A+Saved.standing.Goals as goal

pub returns-then-t-len : goal.returns-then-t-len
returns-then-t-len g c = still_past g.A.Actor.state g.A.Actor.saved_state g.A.Actor.is_reached g.A.Actor.thread c.args.self.now c.args.t
    (omega (arith, c.if-t-len.true, c.len.ensures, c.args.self.now.threads.ok.0))

pub returns-then-thread : goal.returns-then-thread
returns-then-thread g c =
    still_ended g.A.Actor.state g.A.Actor.saved_state g.A.Actor.is_reached g.A.Actor.thread c.args.self.now c.args.t c.index-thread.result.now
    (omega (arith, c.if-t-len.false, c.len.ensures, c.args.self.now.threads.ok.0)) c.index-thread.ensures c.if-thread.true

pub returns-in-None : goal.returns-in-None
returns-in-None g c =
    stands_outside g.A.Actor.state g.A.Actor.saved_state g.A.Actor.is_reached g.A.Actor.thread c.args.self.now c.args.t c.index-thread.result.now
    (omega (arith, c.if-t-len.false, c.len.ensures, c.args.self.now.threads.ok.0)) c.index-thread.ensures c.next.result c.requires c.if-thread.false
    (sym c.stage.ensures ∙ c.in-None.is) c.next.ensures.event c.next.ensures.reached

pub returns-in-Some-Open : goal.returns-in-Some-Open
returns-in-Some-Open g c =
    stands_inside g.A.Actor.state g.A.Actor.saved_state g.A.Actor.is_reached g.A.Actor.thread c.args.self.now c.args.t c.index-thread.result.now
    (omega
    (arith, c.if-t-len.false, c.len.ensures, c.args.self.now.threads.ok.0)) c.index-thread.ensures c.next-in-Some-Open.result c.requires c.if-thread.false
    (sym c.stage.ensures ∙ (c.in-Some-Open.is ∙ ap Some c.in-Some-Open.field-0-is)) c.next-in-Some-Open.ensures.event c.next-in-Some-Open.ensures.reached

pub returns-in-Some-Undoing : goal.returns-in-Some-Undoing
returns-in-Some-Undoing g c =
    stands_undoing g.A.Actor.state g.A.Actor.saved_state g.A.Actor.is_reached g.A.Actor.thread c.args.self.now c.args.t c.index-thread.result.now
    (omega (arith, c.if-t-len.false, c.len.ensures, c.args.self.now.threads.ok.0)) c.index-thread.ensures c.requires c.if-thread.false
    (sym c.stage.ensures ∙ (c.in-Some-Undoing.is ∙ ap Some c.in-Some-Undoing.field-0-is))

pub returns-in-Some-Releasing : goal.returns-in-Some-Releasing
returns-in-Some-Releasing g c =
    stands_releasing g.A.Actor.state g.A.Actor.saved_state g.A.Actor.is_reached g.A.Actor.thread c.args.self.now c.args.t c.index-thread.result.now
    (omega (arith, c.if-t-len.false, c.len.ensures, c.args.self.now.threads.ok.0)) c.index-thread.ensures c.requires c.if-thread.false
    (sym c.stage.ensures ∙ (c.in-Some-Releasing.is ∙ ap Some c.in-Some-Releasing.field-0-is))
