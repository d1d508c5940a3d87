use Rattle.std.proofs.Common.{refl, ap, ◌∙◌, cond}
use Rattle.std.specs.Prelude.{nat_lt, None}
use Rattle.std.proofs.lemmas.Result.{IfOk-weaker}
use Rattle.tx_events.specs.declared.Event.TheVariants.{EndSync}
use Rattle.tx_events.specs.declared.Reply.TheVariants.{Nothing}
use Rattle.tx_events.specs.World.{lock_out}
use Rattle.src_replay.specs.Shown.{world_of}
use Rattle.src_replay.proofs.Arms.{stands_in, took_moved}
use Rattle.src_replay.proofs.world.World.unlock.Goals as goal

pub returns-clause-took : goal.returns-clause-took
returns-clause-took c = λ program w s stand going e.
    let self = c.args.self.now in
    let t = c.args.t in
    IfOk-weaker c.goes.result _ _
    (λ r g. took_moved t w s program EndSync Nothing (λ z. record z { lock = lock_out z.lock }) self
    (record self { holder = c.holder_left-self.result; depth = c.saturating_sub-self.result }) c.goes.new.self r e
    (ap (λ h. record (world_of self) { lock = record { holder = h; depth = c.saturating_sub-self.result } }) c.holder_left-self.ensures
    ∙ ap (λ d. record (world_of self) { lock = record { holder = cond (nat_lt 1 self.depth) self.holder None; depth = d } }) c.saturating_sub-self.ensures)
    (λ f. refl) refl refl refl g)
    (c.goes.ensures.went program s stand (stands_in t w s (world_of self) e))
