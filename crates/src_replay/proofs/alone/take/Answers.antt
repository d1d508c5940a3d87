use Rattle.std.proofs.Common.{◌≡◌, false, length, ap, sym, ◌∙◌, subst, arith}
use Rattle.std.proofs.lemmas.Result.{IfOk-weaker}
use Rattle.tx_memory.specs.View.{layout_of}
use Rattle.src_replay.specs.declared.world.World.{World}
use Rattle.src_replay.specs.Seen.{SeenAct}
use Rattle.src_replay.specs.Shown.{Stands}
use Rattle.src_replay.specs.Turns.{steps_of}
use Rattle.src_replay.proofs.EntrySteps.{paid_less}
use Rattle.src_replay.proofs.Turning.{further, goes_from, enabled_from, spent_unpaid, entered}
use Rattle.src_replay.proofs.alone.take.Goals as goal

pub act-requires : goal.act-requires
act-requires c =
    let count : length c.pay.new.self.threads.alive.items ≡ length c.args.world.now.threads.alive.items =
    ap (λ (z : World). length z.threads.alive.items) c.pay.ensures.same in
    omega (arith, c.requires, count)

pub returns-then-not-pay-clause-entered : goal.returns-then-not-pay-clause-entered
returns-then-not-pay-clause-entered c = λ program p w left going r.
    spent_unpaid program p c.args.t w left c.args.world.now (steps_of c.args.ahead.now) r going c.pay.new.self c.args.events.now.items
    (c.pay.ensures.spent c.if-not-pay.true) c.pay.ensures.same c.pay.ensures.less

pub returns-clause-paid : goal.returns-clause-paid
returns-clause-paid c = paid_less c.act.result _ c.pay.new.self.left c.args.world.now.left c.act.ensures.less
    (omega (arith, c.pay.ensures.paid c.if-not-pay.false))

pub returns-clause-entered : goal.returns-clause-entered
returns-clause-entered c = λ program p w left going r.
    let t = c.args.t in
    let world = c.args.world.now in
    let ns = steps_of c.args.ahead.now in
    let paid = c.pay.new.self in
    let same = c.pay.ensures.same in
    let before = c.args.events.now.items in
    let after = c.act.new.events.items in
    let new = c.act.new.world in
    let u = further program p t w left world ns r going in
    let next_is = c.next-event.ensures (record { state = r.here; ended = false }) r.stands_there in
    let layout : layout_of paid.memory ≡ p = ap (λ (z : World). layout_of z.memory) same ∙ r.looked.layout in
    IfOk-weaker c.act.result _ _
    (λ q acted. entered program p t w left world ns r going (steps_of c.put.new.self) c.put.ensures paid.left new before after q
    (c.pay.ensures.paid c.if-not-pay.false) (subst (λ z. SeenAct program z t u r.here paid.left new before after q) layout acted))
    (c.act.ensures.seen program u r.here (subst (λ (z : World). Stands program z) (sym same) r.looked.stands) going
    (goes_from program p t w left world ns r going paid same) (sym next_is) (enabled_from program p t w left world ns r going c.next-event.result next_is))
