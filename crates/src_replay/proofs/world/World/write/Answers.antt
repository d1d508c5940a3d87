use Rattle.std.proofs.Common.{refl, ap, ◌++◌, ◌∷◌, []}
use Rattle.std.proofs.lemmas.Result.{IfOk-weaker}
use Rattle.tx_events.specs.declared.Event.TheVariants.{Out}
use Rattle.tx_events.specs.declared.Reply.TheVariants.{Nothing}
use Rattle.src_replay.specs.Shown.{world_of}
use Rattle.src_replay.proofs.Arms.{stands_in, took_moved}
use Rattle.src_replay.proofs.world.World.write.Goals as goal

pub returns-clause-took : goal.returns-clause-took
returns-clause-took c = λ program w s stand going e.
    let self = c.args.self.now in
    let mid = record self { out = c.push.new.self } in
    IfOk-weaker c.goes.result _ _
    (λ r g. took_moved c.args.t w s program (Out c.args.byte) Nothing (λ z. record z { out = z.out ++ c.args.byte ∷ [] }) self mid c.goes.new.self r e
    (ap (λ o. record (world_of self) { out = o }) c.in_ok-push.ensures.items) (λ f. refl) refl refl refl g)
    (c.goes.ensures.went program s stand (stands_in c.args.t w s (world_of self) e))
