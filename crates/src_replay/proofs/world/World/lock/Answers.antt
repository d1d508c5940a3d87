use Rattle.std.proofs.Common.{refl, ap, Some}
use Rattle.std.proofs.lemmas.Result.{IfOk-weaker}
use Rattle.tx_events.specs.declared.Event.TheVariants.{BeginSync}
use Rattle.tx_events.specs.declared.Reply.TheVariants.{Nothing}
use Rattle.tx_events.specs.World.{lock_in}
use Rattle.src_replay.specs.Shown.{world_of}
use Rattle.src_replay.proofs.Arms.{stands_in, took_moved}
use Rattle.src_replay.proofs.world.World.lock.Goals as goal

pub returns-clause-took : goal.returns-clause-took
returns-clause-took c = λ program w s stand going e enabled.
    let self = c.args.self.now in
    let t = c.args.t in
    IfOk-weaker c.goes.result _ _
    (λ r g. took_moved t w s program BeginSync Nothing (λ z. record z { lock = lock_in t z.lock }) self
    (record self { holder = Some t; depth = c.in-Some.depth }) c.goes.new.self r e
    (ap (λ d. record (world_of self) { lock = record { holder = Some t; depth = d } }) c.in-Some.ensures.1) (λ f. refl) (enabled, refl) refl refl g)
    (c.goes.ensures.went program s stand (stands_in t w s (world_of self) e))
