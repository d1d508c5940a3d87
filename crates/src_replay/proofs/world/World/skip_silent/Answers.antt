use Rattle.std.proofs.Common.{◌≡◌, ◌+◌, length, refl, ap, sym, ◌∙◌, subst, arith, false}
use Rattle.tx_events.specs.Thread.{is_silent}
use Rattle.tx_memory.specs.View.{layout_of}
use Rattle.src_replay.specs.declared.world.World.{World}
use Rattle.src_replay.specs.Shown.{world_of, Stands}
use Rattle.src_replay.proofs.Arms.{stands_in}
use Rattle.src_replay.proofs.EntrySteps.{skips_none, skips_more, skipped_end, has_paid}
use Rattle.src_replay.proofs.world.World.skip_silent.Goals as goal

pub loop-taken-init : goal.loop-taken-init
loop-taken-init c =
    let self = c.args.self.now in
    record {
      count = refl;
      left = omega arith;
      skips = λ program s stand at. skips_none program (layout_of self.memory) c.args.t (world_of self) s self.left self refl refl refl at stand;
    }

pub next-requires : goal.next-requires
next-requires c = omega (arith, c.requires, c.loop-taken.invariant.count)

pub next-requires-2 : goal.next-requires-2
next-requires-2 c = omega (arith, c.requires, c.loop-taken.invariant.count)

pub go_on-requires : goal.go_on-requires
go_on-requires c =
    let count : length c.pay.new.self.threads.alive.items ≡ length c.loop-taken.self.threads.alive.items =
    ap (λ (z : World). length z.threads.alive.items) c.pay.ensures.same in
    omega (arith, c.requires, c.loop-taken.invariant.count, count)

pub loop-taken-preserved : goal.loop-taken-preserved
loop-taken-preserved c =
    let self = c.args.self.now in
    let t = c.args.t in
    let mid = c.loop-taken.self in
    let paid = c.pay.new.self in
    let inv = c.loop-taken.invariant in
    let same = c.pay.ensures.same in
    let less : paid.left + 1 ≡ mid.left = has_paid c.pay.result paid.left mid.left c.pay.ensures.paid c.pay.ensures.spent
    (omega (arith, inv.left, c.loop-taken-test.true)) in
    record {
      count = c.go_on.ensures.count ∙ (ap (λ (z : World). length z.threads.alive.items) same ∙ inv.count);
      left = omega (arith, inv.left, less);
      skips = λ program s stand at.
          let h = inv.skips program s stand at in
          let next_is = c.next.ensures (record { state = h.here; ended = false }) (stands_in t (world_of self) h.here (world_of mid) h.world) in
          skips_more program (layout_of self.memory) t (world_of self) s self.left mid paid (record paid { threads = c.go_on.new.self }) h same less
          (sym (ap is_silent next_is) ∙ (sym c.is_silent.ensures ∙ c.if-not-is_silent.false))
          (c.in_ok-go_on.ensures.set program (layout_of paid.memory) h.here (subst (λ (z : World). Stands program z) (sym same) h.stands)
          (stands_in t (world_of self) h.here (world_of paid) (ap world_of same ∙ h.world)))
          refl refl refl;
    }

pub returns-then-not-is_silent-clause-skipped : goal.returns-then-not-is_silent-clause-skipped
returns-then-not-is_silent-clause-skipped c = λ program s stand at.
    let self = c.args.self.now in
    let h = c.loop-taken.invariant.skips program s stand at in
    record {
      skips = h;
      loud = sym (ap is_silent (c.next.ensures (record { state = h.here; ended = false })
          (stands_in c.args.t (world_of self) h.here (world_of c.loop-taken.self) h.world))) ∙ sym c.if-not-is_silent.ensures;
    }

pub returns-clause-skipped : goal.returns-clause-skipped
returns-clause-skipped c = λ program s stand at.
    let self = c.args.self.now in
    let now = c.loop-taken.self in
    let h = c.loop-taken.invariant.skips program s stand at in
    skipped_end program (layout_of self.memory) c.args.t (world_of self) s self.left now h c.is_silent-2.result
    (c.is_silent-2.ensures ∙ ap is_silent (c.next-2.ensures (record { state = h.here; ended = false })
    (stands_in c.args.t (world_of self) h.here (world_of now) h.world)))
    (omega (arith, c.loop-taken.invariant.left, c.loop-taken-test.false))
