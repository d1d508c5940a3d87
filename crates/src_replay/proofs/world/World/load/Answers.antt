use Rattle.std.proofs.Common.{refl, ◌∙◌}
use Rattle.std.proofs.lemmas.Bool.{false≢true}
use Rattle.std.proofs.lemmas.Result.{IfOk-weaker}
use Rattle.tx_events.specs.declared.End.TheVariants.{Trapped}
use Rattle.tx_events.specs.declared.Trap.TheVariants.{BadAddress}
use Rattle.tx_events.specs.declared.Event.TheVariants.{Load}
use Rattle.tx_events.specs.declared.Reply.TheVariants.{Loaded}
use Rattle.tx_events.specs.Memory.{can_access}
use Rattle.tx_events.specs.World.{ends}
use Rattle.tx_memory.specs.View.{layout_of}
use Rattle.src_replay.specs.Shown.{world_of}
use Rattle.src_replay.proofs.Arms.{stands_in, took_moved, took_halted, load_does, read_none, cond_false, load_sized, sized_at}
use Rattle.src_replay.proofs.world.World.load.Goals as goal

pub returns-in-Some-clause-took : goal.returns-in-Some-clause-took
returns-in-Some-clause-took c = λ program w s volatile stand going e event.
    let self = c.args.self.now in
    let t = c.args.t in
    IfOk-weaker c.goes.result _ _
    (λ r g. took_moved t w s program (Load c.args.addr c.args.size volatile) (Loaded c.in-Some.value) (λ z. z) self self c.goes.new.self r e refl (λ f. refl)
    (load_does program (layout_of self.memory) t w s
    (world_of self) c.args.addr c.args.size c.in-Some.value c.load.result e c.load.ensures.value c.in-Some.is) refl refl g)
    (c.goes.ensures.went program s stand (stands_in t w s (world_of self) e))

pub returns-in-None-clause-took : goal.returns-in-None-clause-took
returns-in-None-clause-took c = λ program w s volatile stand going e event.
    let self = c.args.self.now in
    let t = c.args.t in
    let p = layout_of self.memory in
    IfOk-weaker c.halt.result _ _ (λ r h. took_halted t w s program (Load c.args.addr c.args.size volatile)
    (Trapped BadAddress) self self c.halt.new.self r e refl refl refl refl stand
    (cond_false (can_access p c.args.addr c.args.size) _ (ends w (Trapped BadAddress))
    (read_none (can_access p c.args.addr c.args.size) _ c.load.result c.load.ensures.value c.in-None.is)) h) c.halt.ensures.halted

pub returns-then-not-is_size-clause-took : goal.returns-then-not-is_size-clause-took
returns-then-not-is_size-clause-took c = λ program w s volatile stand going e event.
    let self = c.args.self.now in
    let sized = sized_at program (layout_of self.memory) self.threads.alive.items c.args.t s stand (stands_in c.args.t w s (world_of self) e) in
    absurd (false≢true (c.if-not-is_size.ensures ∙ load_sized s.event c.args.addr c.args.size volatile sized event))
