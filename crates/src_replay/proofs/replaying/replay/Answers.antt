use Rattle.std.proofs.Common.{arith, get_or, refl}
use Rattle.src_replay.proofs.OrderSteps.{ran_first, ran_taken, ran_refused, ran_spent, ran_all}
use Rattle.src_bind.specs.Bounds.{given}
use Rattle.src_replay.specs.Orders.{program_in}
use Rattle.src_replay.proofs.replaying.replay.Goals as goal

pub loop-i-preserved : goal.loop-i-preserved
loop-i-preserved c =
    let inv = c.loop-i.invariant in
    let b = given c.args.bound.now in
    let s = c.in-Ok-step.ensures in
    record {
      left = omega (arith, inv.left, s.paid c.in-Taken.is);
      ran = ran_taken b c.args.input.now c.args.order.now c.args.most c.loop-i.i
          (get_or c.args.order.now c.loop-i.i 0) c.loop-i.world c.step.new.self inv.ran c.loop-i-test.true refl c.in-Ok-step.entry c.in-Taken.is
          (s.stepped (program_in b) inv.ran.stands);
    }

pub returns-in-Refused : goal.returns-in-Refused
returns-in-Refused c =
    let inv = c.loop-i.invariant in
    let b = given c.args.bound.now in
    ran_refused b c.args.input.now c.args.order.now c.args.most c.loop-i.i
    (get_or c.args.order.now c.loop-i.i 0) c.loop-i.world c.step.new.self inv.ran c.loop-i-test.true refl c.place-index.result c.in-Ok-step.entry
    c.place-index.ensures c.in-Refused.is
    (c.in-Ok-step.ensures.stepped (program_in b) inv.ran.stands)

pub returns-in-Spent : goal.returns-in-Spent
returns-in-Spent c =
    let inv = c.loop-i.invariant in
    let b = given c.args.bound.now in
    ran_spent b c.args.input.now c.args.order.now c.args.most c.loop-i.i
    (get_or c.args.order.now c.loop-i.i 0) c.loop-i.world c.step.new.self inv.ran c.loop-i-test.true refl c.place-index.result c.in-Ok-step.entry
    c.place-index.ensures c.in-Spent.is
    (c.in-Ok-step.ensures.stepped (program_in b) inv.ran.stands)

pub loop-i-init : goal.loop-i-init
loop-i-init c =
    let b = given c.args.bound.now in
    let w = c.in-Ok.ensures in
    record {
      left = omega (arith, w.left);
      ran = ran_first b c.args.input.now c.args.order.now c.args.most c.in-Ok.world w.world w.layout w.stands w.left;
    }

pub returns : goal.returns
returns c =
    let inv = c.loop-i.invariant in
    ran_all (given c.args.bound.now) c.args.input.now c.args.order.now c.args.most c.loop-i.i c.loop-i.world _ inv.ran c.loop-i-test.false refl refl c.count-started.ensures
    (omega (arith, inv.left))
