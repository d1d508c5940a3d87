use Rattle.std.proofs.Common.{refl, sym, ap, ◌∙◌, ◌≡◌, arith, pos, length, ◌<◌, w64, nat_lt, ◌+◌, subst}
use Rattle.std.proofs.lemmas.Bool.{lt-ltb, le-ltb}
use Rattle.std.proofs.lemmas.Int.{to_z-of_z}
use Rattle.std.proofs.lemmas.Result.{IfOk-weaker}
use Rattle.tx_events.specs.declared.End.TheVariants.{Trapped}
use Rattle.tx_events.specs.declared.Trap.TheVariants.{TooManyThreads}
use Rattle.tx_events.specs.declared.Event.TheVariants.{Spawn}
use Rattle.tx_events.specs.declared.Reply.TheVariants.{Id}
use Rattle.tx_events.specs.Memory.{update}
use Rattle.tx_events.specs.World.{World as Worlds, alive, ends}
use Rattle.tx_memory.specs.View.{layout_of}
use Rattle.src_mean.specs.Frames.{State}
use Rattle.src_mean.specs.Source.{source}
use Rattle.src_replay.specs.Shown.{world_of, IsMore}
use Rattle.src_replay.proofs.Arms.{stands_in, took_halted, shows_going, spawned, at_more, stand_more, cond_true, cond_false}
use Rattle.src_replay.proofs.world.World.spawn.Goals as goal

pub returns-clause-took : goal.returns-clause-took
returns-clause-took c = λ program w s stand going e.
    let self = c.args.self.now in
    let t = c.args.t in
    let xs = self.threads.alive.items in
    let p = layout_of self.memory in
    let number = c.count-count.result in
    let mid = record self { threads = c.start.new.self } in
    let at = stands_in t w s (world_of self) e in
    let child = (source program).child s number c.args.func c.args.arg in
    let more : IsMore program child xs mid.threads.alive.items =
    subst (λ z. IsMore program ((source program).child s number c.args.func z) xs mid.threads.alive.items) (to_z-of_z w64 c.args.arg c.ranges.arg)
    (c.in_ok-start.ensures.more program p s stand at) in
    let few : length xs < 64 = omega (arith, c.if-count-from.false, c.from.ensures, c.count-count.ensures) in
    let started : w.started ≡ number = sym (ap (λ (z : Worlds State). z.started) e) ∙ sym c.count-count.ensures in
    let v : Worlds State = record w {
      started = w.started + 1;
      threads = update
          (update w.threads w.started (alive ((source program).child s w.started c.args.func c.args.arg))) t
          (alive ((source program).after s (Id (pos w.started))));
    } in
    IfOk-weaker c.goes.result _ _
    (λ r g. record {
      taken = g.taken;
      world = v;
      does = cond_true (nat_lt w.started p.limit) v (ends w (Trapped TooManyThreads))
          (lt-ltb w.started p.limit (omega (arith, started, few, c.count-count.ensures, stand.limit)));
      shows = shows_going t w s program c.goes.new.self v
          (spawned program t c.args.func c.args.arg w s self mid c.goes.new.self number c.id_reply.result e c.count-count.ensures c.id_reply.ensures more refl
          g.world);
      stays = record { stands = g.stays.stands; layout = g.stays.layout };
      left = g.left;
    })
    (c.goes.ensures.went program s (stand_more program p xs mid.threads.alive.items child few stand more)
    (at_more program xs mid.threads.alive.items t s child c.requires at more))

pub returns-then-count-from-clause-took : goal.returns-then-count-from-clause-took
returns-then-count-from-clause-took c = λ program w s stand going e.
    let self = c.args.self.now in
    let p = layout_of self.memory in
    let started : w.started ≡ c.count-count.result = sym (ap (λ (z : Worlds State). z.started) e) ∙ sym c.count-count.ensures in
    IfOk-weaker c.halt.result _ _ (λ r h. took_halted c.args.t w s program (Spawn c.args.func c.args.arg)
    (Trapped TooManyThreads) self self c.halt.new.self r e refl refl refl refl stand
    (cond_false (nat_lt w.started p.limit) _ (ends w (Trapped TooManyThreads))
    (le-ltb w.started p.limit (omega (arith, started, c.if-count-from.true, c.from.ensures, stand.limit)))) h) c.halt.ensures.halted
