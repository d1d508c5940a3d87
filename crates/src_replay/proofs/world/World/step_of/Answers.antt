use Rattle.std.proofs.Common.{◌≡◌, ◌+◌, false, length, ap, sym, ◌∙◌, subst, arith}
use Rattle.std.proofs.lemmas.Result.{IfOk-weaker}
use Rattle.tx_memory.specs.View.{layout_of}
use Rattle.src_replay.specs.declared.world.World.{World}
use Rattle.src_replay.specs.Entries.{is_enabled}
use Rattle.src_replay.specs.Shown.{world_of, Stands, Acted}
use Rattle.src_replay.proofs.Arms.{stands_in, few_threads}
use Rattle.src_replay.proofs.EntrySteps.{all_skipped, on_skipped, spent_silently, refused_there, spent_there, enabled_from, stepped, paid_less}
use Rattle.src_replay.proofs.world.World.step_of.Goals as goal

pub returns-then-not-loud-clause-stepped : goal.returns-then-not-loud-clause-stepped
returns-then-not-loud-clause-stepped c = λ program s stand going at.
    let self = c.args.self.now in
    let p = layout_of self.memory in
    let mid = c.skip_silent.new.self in
    spent_silently program p c.args.t (world_of self) s self.left going at mid
    (on_skipped program p c.args.t (world_of self) s self.left mid c.in_ok-loud.loud (c.in_ok-loud.ensures.skipped program s stand at) c.if-not-loud.true)

pub returns-then-not-is_enabled-clause-stepped : goal.returns-then-not-is_enabled-clause-stepped
returns-then-not-is_enabled-clause-stepped c = λ program s stand going at.
    let self = c.args.self.now in
    let t = c.args.t in
    let w = world_of self in
    let p = layout_of self.memory in
    let mid = c.skip_silent.new.self in
    let h = all_skipped program p t w s self.left mid c.in_ok-loud.loud (c.in_ok-loud.ensures.skipped program s stand at) c.if-not-loud.false in
    let next_is = c.next-event.ensures (record { state = h.skips.here; ended = false }) (stands_in t w h.skips.here (world_of mid) h.skips.world) in
    refused_there program p t w s self.left going at mid h c.next-event.result c.is_enabled.result next_is
    (c.is_enabled.ensures (few_threads program mid h.skips.stands)) c.if-not-is_enabled.true

pub returns-then-not-pay-clause-stepped : goal.returns-then-not-pay-clause-stepped
returns-then-not-pay-clause-stepped c = λ program s stand going at.
    let self = c.args.self.now in
    let t = c.args.t in
    let w = world_of self in
    let p = layout_of self.memory in
    let mid = c.skip_silent.new.self in
    let h = all_skipped program p t w s self.left mid c.in_ok-loud.loud (c.in_ok-loud.ensures.skipped program s stand at) c.if-not-loud.false in
    let next_is = c.next-event.ensures (record { state = h.skips.here; ended = false }) (stands_in t w h.skips.here (world_of mid) h.skips.world) in
    spent_there program p t w s self.left going at mid h c.next-event.result c.is_enabled.result next_is
    (c.is_enabled.ensures (few_threads program mid h.skips.stands)) c.if-not-is_enabled.false
    (c.pay.ensures.spent c.if-not-pay.true)

pub returns-clause-stepped : goal.returns-clause-stepped
returns-clause-stepped c = λ program s stand going at.
    let self = c.args.self.now in
    let t = c.args.t in
    let w = world_of self in
    let p = layout_of self.memory in
    let mid = c.skip_silent.new.self in
    let paid = c.pay.new.self in
    let same = c.pay.ensures.same in
    let h = all_skipped program p t w s self.left mid c.in_ok-loud.loud (c.in_ok-loud.ensures.skipped program s stand at) c.if-not-loud.false in
    let here = h.skips.here in
    let next_is = c.next-event.ensures (record { state = here; ended = false }) (stands_in t w here (world_of mid) h.skips.world) in
    let enabled = enabled_from program p t w s self.left going at mid h.skips c.next-event.result c.is_enabled.result next_is
    (c.is_enabled.ensures (few_threads program mid h.skips.stands)) ∙ c.if-not-is_enabled.false in
    let layout : layout_of paid.memory ≡ p = ap (λ (z : World). layout_of z.memory) same ∙ h.skips.layout in
    let less : paid.left + 1 ≡ mid.left = c.pay.ensures.paid c.if-not-pay.false in
    IfOk-weaker c.act.result _ _
    (λ r acted. stepped program p t w s self.left going at here h.skips.steps paid.left c.act.new.self r (omega (arith, h.skips.cost, less))
    (subst (λ z. Acted program z t w here paid.left c.act.new.self r) layout acted))
    (c.act.ensures.acted program w here (subst (λ (z : World). Stands program z) (sym same) h.skips.stands) going (ap world_of same ∙ h.skips.world)
    (sym next_is) (ap (λ e. is_enabled t w e) next_is ∙ enabled))

pub act-requires : goal.act-requires
act-requires c =
    let count : length c.pay.new.self.threads.alive.items ≡ length c.skip_silent.new.self.threads.alive.items =
    ap (λ (z : World). length z.threads.alive.items) c.pay.ensures.same in
    omega (arith, c.requires, c.in_ok-loud.ensures.count, count)

pub returns-clause-paid : goal.returns-clause-paid
returns-clause-paid c = paid_less c.act.result _ c.pay.new.self.left c.args.self.now.left c.act.ensures.less
    (omega (arith, c.in_ok-loud.ensures.less, c.pay.ensures.paid c.if-not-pay.false))
