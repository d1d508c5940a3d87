use Rattle.std.proofs.Common.{refl, sym, ap, ◌∙◌}
use Rattle.std.proofs.lemmas.Bool.{false≢true}
use Rattle.std.proofs.lemmas.Result.{IfOk-weaker}
use Rattle.tx_events.specs.declared.End.TheVariants.{Trapped}
use Rattle.tx_events.specs.declared.Trap.TheVariants.{BadAddress}
use Rattle.tx_events.specs.declared.Event.TheVariants.{Store}
use Rattle.tx_events.specs.declared.Reply.TheVariants.{Nothing}
use Rattle.tx_events.specs.Memory.{can_access, store}
use Rattle.tx_events.specs.World.{ends}
use Rattle.tx_memory.specs.View.{layout_of, words_of}
use Rattle.src_replay.specs.Shown.{world_of}
use Rattle.src_replay.proofs.Arms.{stands_in, took_moved, took_halted, store_does, stored_if, cond_false, store_sized, sized_at, stand_on}
use Rattle.src_replay.proofs.world.World.store.Goals as goal

pub returns-then-not-fits-clause-took : goal.returns-then-not-fits-clause-took
returns-then-not-fits-clause-took c = λ program w s volatile stand going e event.
    let self = c.args.self.now in
    let sized = sized_at program (layout_of self.memory) self.threads.alive.items c.args.t s stand (stands_in c.args.t w s (world_of self) e) in
    absurd (false≢true (c.if-not-fits.ensures ∙ store_sized s.event c.args.addr c.args.size c.args.value volatile sized event))

pub returns-then-store-clause-took : goal.returns-then-store-clause-took
returns-then-store-clause-took c = λ program w s volatile stand going e event.
    let self = c.args.self.now in
    let t = c.args.t in
    let p = layout_of self.memory in
    let mid = record self { memory = c.store.new.self } in
    let can = sym c.store.ensures.done ∙ c.if-store.true in
    let words = stored_if (can_access p c.args.addr c.args.size) (words_of self.memory) (words_of c.store.new.self)
    (store (words_of self.memory) c.args.addr c.args.size c.args.value) can c.store.ensures.words in
    IfOk-weaker c.goes.result _ _
    (λ r g. took_moved t w s program (Store c.args.addr c.args.size c.args.value volatile) Nothing
    (λ z. record z { memory = store z.memory c.args.addr c.args.size c.args.value }) self mid c.goes.new.self r e
    (ap (λ m. record (world_of self) { memory = m }) words) (λ f. refl)
    (store_does program p t w s c.args.addr c.args.size c.args.value can) c.store.ensures.layout refl g)
    (c.goes.ensures.went program s (stand_on program (layout_of self.memory) (layout_of c.store.new.self) self.threads.alive.items c.store.ensures.layout stand)
    (stands_in t w s (world_of self) e))

pub returns-else-store-clause-took : goal.returns-else-store-clause-took
returns-else-store-clause-took c = λ program w s volatile stand going e event.
    let self = c.args.self.now in
    let t = c.args.t in
    let p = layout_of self.memory in
    let mid = record self { memory = c.store.new.self } in
    let cannot = sym c.store.ensures.done ∙ c.if-store.false in
    IfOk-weaker c.halt.result _ _ (λ r h. took_halted t w s program (Store c.args.addr c.args.size c.args.value volatile)
    (Trapped BadAddress) self mid c.halt.new.self r e refl refl c.store.ensures.layout refl
    (stand_on program (layout_of self.memory) (layout_of c.store.new.self) self.threads.alive.items c.store.ensures.layout stand)
    (cond_false (can_access p c.args.addr c.args.size) _ (ends w (Trapped BadAddress)) cannot) h) c.halt.ensures.halted
