use Rattle.std.proofs.Common.{arith, sym, subst}
use Rattle.tx_memory.specs.View.{layout_of}
use Rattle.src_bind.specs.Bounds.{given}
use Rattle.src_mean.specs.Source.{source}
use Rattle.src_replay.specs.declared.alone.AloneEnd.{AloneEnd}
use Rattle.src_replay.specs.LoneRuns.{IsRunAlone}
use Rattle.src_replay.specs.Orders.{program_in, layout_in, first_in}
use Rattle.src_replay.specs.Turns.{steps_of, RanAlone}
use Rattle.src_replay.proofs.LoneEntries.{going, ahead, alone_first, alone_ended, alone_taken, alone_stuck, alone_broken, alone_cut, alone_silent}
use Rattle.src_replay.proofs.Turning.{near_turn, nobody_is, ready_is, spent_is, taken_is, stays_is, cut_is}
use Rattle.src_replay.proofs.alone.run_alone.Goals as goal

pub entries-init : goal.entries-init
entries-init c =
    let w = c.in_ok-world.ensures in
    record {
      left = omega (arith, w.left);
      early = omega (arith, w.left);
      ran = alone_first (given c.args.bound.now) c.args.input.now c.args.most c.in_ok-world.world c.new-order.result.items
          (steps_of c.new-ahead.result) c.new-events.result.items w.world w.layout w.stands w.left c.new-order.ensures.items c.new-ahead.ensures
          c.new-events.ensures.items;
    }

pub next-requires-clause-few : goal.next-requires-clause-few
next-requires-clause-few c = let stand = c.entries.invariant.ran.stands in omega (arith, stand.few, stand.limit)

pub next-requires-clause-early : goal.next-requires-clause-early
next-requires-clause-early c = omega (arith, c.entries.invariant.early)

pub returns-in-Some : goal.returns-in-Some
returns-in-Some c =
    let b = given c.args.bound.now in
    let r = c.told.result in
    let t = c.told.ensures in
    let ran = subst (λ z. RanAlone b c.args.input.now z c.args.most c.entries.turn c.entries.world (steps_of c.entries.ahead) c.entries.events.items)
    (sym t.order) c.entries.invariant.ran in
    subst (λ (z : AloneEnd). IsRunAlone (source (program_in b)) (layout_in b) (first_in b c.args.input.now) c.args.most r z) (sym t.stopped)
    (alone_ended b c.args.input.now c.args.most c.entries.turn c.entries.world
    (steps_of c.entries.ahead) c.entries.events.items c.in-Some.end r ran c.in-Some.is t.out t.events t.cost)

pub returns-in-Nobody : goal.returns-in-Nobody
returns-in-Nobody c =
    let b = given c.args.bound.now in
    let input = c.args.input.now in
    let old = c.entries.world in
    let ns = steps_of c.entries.ahead in
    let r = c.told-in-Nobody.result in
    let t = c.told-in-Nobody.ensures in
    let ran = subst (λ z. RanAlone b input z c.args.most c.entries.turn old ns c.entries.events.items) (sym t.order) c.entries.invariant.ran in
    let none = c.in_default.is in
    let g = going b input c.args.most r.order.items c.entries.turn old ns c.entries.events.items ran none in
    let a = ahead b input c.args.most r.order.items c.entries.turn old ns c.entries.events.items ran none in
    let chosen = c.in_ok-next.ensures.chosen (program_in b) ran.world ran.stands g a in
    subst (λ (z : AloneEnd). IsRunAlone (source (program_in b)) (layout_in b) (first_in b input) c.args.most r z) (sym t.stopped)
    (alone_stuck b input c.args.most r c.entries.turn old ns c.entries.events.items ran none c.next.new.world t.out t.cost
    (nobody_is (program_in b) (layout_of old.memory) c.entries.turn ran.world old.left c.next.new.world
    (steps_of c.next.new.ahead) c.in_ok-next.field-0 c.in-Nobody.is chosen) t.events)

pub returns-in-Spent : goal.returns-in-Spent
returns-in-Spent c =
    let b = given c.args.bound.now in
    let input = c.args.input.now in
    let old = c.entries.world in
    let ns = steps_of c.entries.ahead in
    let r = c.told-in-Spent.result in
    let t = c.told-in-Spent.ensures in
    let ran = subst (λ z. RanAlone b input z c.args.most c.entries.turn old ns c.entries.events.items) (sym t.order) c.entries.invariant.ran in
    let none = c.in_default.is in
    let g = going b input c.args.most r.order.items c.entries.turn old ns c.entries.events.items ran none in
    let a = ahead b input c.args.most r.order.items c.entries.turn old ns c.entries.events.items ran none in
    let k = c.in-Spent.field-0 in
    let u = c.in-Spent.field-1 in
    let spent = spent_is (program_in b) (layout_of old.memory) c.entries.turn ran.world old.left c.next.new.world
    (steps_of c.next.new.ahead) c.in_ok-next.field-0 k u c.in-Spent.is (c.in_ok-next.ensures.chosen (program_in b) ran.world ran.stands g a) in
    subst (λ (z : AloneEnd). IsRunAlone (source (program_in b)) (layout_in b) (first_in b input) c.args.most r z) (sym t.stopped)
    (alone_silent b input c.args.most r c.entries.turn old ns c.entries.events.items ran none c.next.new.world t.out t.cost k u spent.0 t.events spent.1)

pub entries-preserved : goal.entries-preserved
entries-preserved c =
    let b = given c.args.bound.now in
    let input = c.args.input.now in
    let most = c.args.most in
    let old = c.entries.world in
    let ns = steps_of c.entries.ahead in
    let told = c.entries.events.items in
    let from = c.entries.turn in
    let p = layout_of old.memory in
    let none = c.in_default.is in
    let ran = c.entries.invariant.ran in
    let g = going b input most c.entries.order.items from old ns told ran none in
    let a = ahead b input most c.entries.order.items from old ns told ran none in
    let k = c.in-Ready.at in
    let t = c.in-Ready.t in
    let ready = ready_is (program_in b) p from ran.world old.left c.next.new.world (steps_of c.next.new.ahead) c.in_ok-next.field-0 k t c.in-Ready.is
    (c.in_ok-next.ensures.chosen (program_in b) ran.world ran.stands g a) in
    let new = c.take.new.world in
    let ms = steps_of c.take.new.ahead in
    let after = c.take.new.events.items in
    let entry = taken_is (program_in b) p t ran.world old.left new ms told after c.in_ok-take-in-Ready.field-0 c.in-Taken.is
    (c.in_ok-take-in-Ready.ensures.entered (program_in b) p ran.world old.left g ready.1) in
    let near = near_turn (program_in b) p from k t ran.world old.left old ns a ran.stands ready.0 in
    record {
      left = omega (arith, c.entries.invariant.left, c.in_ok-next.ensures.less, c.in_ok-take-in-Ready.ensures.less);
      early = omega (arith, near, c.entries.invariant.early, c.in_ok-next.ensures.less, c.in_ok-take-in-Ready.ensures.paid c.in-Taken.is);
      ran = alone_taken b input most c.entries.order.items from old ns told ran none k t ready.0 new ms after c.push.new.self.items
          c.in_ok-push-in-Taken.ensures.items entry;
    }

pub overflow_add-turn : goal.overflow_add-turn
overflow_add-turn c =
    let b = given c.args.bound.now in
    let input = c.args.input.now in
    let most = c.args.most in
    let old = c.entries.world in
    let ns = steps_of c.entries.ahead in
    let told = c.entries.events.items in
    let from = c.entries.turn in
    let p = layout_of old.memory in
    let none = c.in_default.is in
    let ran = c.entries.invariant.ran in
    let g = going b input most c.entries.order.items from old ns told ran none in
    let a = ahead b input most c.entries.order.items from old ns told ran none in
    let k = c.in-Ready.at in
    let t = c.in-Ready.t in
    let ready = ready_is (program_in b) p from ran.world old.left c.next.new.world (steps_of c.next.new.ahead) c.in_ok-next.field-0 k t c.in-Ready.is
    (c.in_ok-next.ensures.chosen (program_in b) ran.world ran.stands g a) in
    let near = near_turn (program_in b) p from k t ran.world old.left old ns a ran.stands ready.0 in
    omega (arith, near, c.entries.invariant.early)

pub returns-in-Refused : goal.returns-in-Refused
returns-in-Refused c =
    let r = c.told-in-Refused.result in
    let is = c.told-in-Refused.ensures in
    let b = given c.args.bound.now in
    let input = c.args.input.now in
    let most = c.args.most in
    let old = c.entries.world in
    let ns = steps_of c.entries.ahead in
    let told = c.entries.events.items in
    let from = c.entries.turn in
    let p = layout_of old.memory in
    let none = c.in_default.is in
    let ran = subst (λ z. RanAlone b input z most from old ns told) (sym is.order) c.entries.invariant.ran in
    let g = going b input most r.order.items from old ns told ran none in
    let a = ahead b input most r.order.items from old ns told ran none in
    let k = c.in-Ready.at in
    let t = c.in-Ready.t in
    let ready = ready_is (program_in b) p from ran.world old.left c.next.new.world (steps_of c.next.new.ahead) c.in_ok-next.field-0 k t c.in-Ready.is
    (c.in_ok-next.ensures.chosen (program_in b) ran.world ran.stands g a) in
    let new = c.take.new.world in
    let ms = steps_of c.take.new.ahead in
    let after = c.take.new.events.items in
    let entry = stays_is (program_in b) p t ran.world old.left new ms told after c.in_ok-take-in-Ready.field-0 c.in-Refused.is
    (c.in_ok-take-in-Ready.ensures.entered (program_in b) p ran.world old.left g ready.1) in
    subst (λ (z : AloneEnd). IsRunAlone (source (program_in b)) (layout_in b) (first_in b input) most r z) (sym is.stopped)
    (alone_broken b input most r from old ns told ran none new is.out is.cost k t ready.0 after is.events entry)

pub returns-in-Spent-2 : goal.returns-in-Spent-2
returns-in-Spent-2 c =
    let r = c.told-in-Spent-2.result in
    let is = c.told-in-Spent-2.ensures in
    let b = given c.args.bound.now in
    let input = c.args.input.now in
    let most = c.args.most in
    let old = c.entries.world in
    let ns = steps_of c.entries.ahead in
    let told = c.entries.events.items in
    let from = c.entries.turn in
    let p = layout_of old.memory in
    let none = c.in_default.is in
    let ran = subst (λ z. RanAlone b input z most from old ns told) (sym is.order) c.entries.invariant.ran in
    let g = going b input most r.order.items from old ns told ran none in
    let a = ahead b input most r.order.items from old ns told ran none in
    let k = c.in-Ready.at in
    let t = c.in-Ready.t in
    let ready = ready_is (program_in b) p from ran.world old.left c.next.new.world (steps_of c.next.new.ahead) c.in_ok-next.field-0 k t c.in-Ready.is
    (c.in_ok-next.ensures.chosen (program_in b) ran.world ran.stands g a) in
    let new = c.take.new.world in
    let ms = steps_of c.take.new.ahead in
    let after = c.take.new.events.items in
    let entry = cut_is (program_in b) p t ran.world old.left new ms told after c.in_ok-take-in-Ready.field-0 c.in-Spent-2.is
    (c.in_ok-take-in-Ready.ensures.entered (program_in b) p ran.world old.left g ready.1) in
    subst (λ (z : AloneEnd). IsRunAlone (source (program_in b)) (layout_in b) (first_in b input) most r z) (sym is.stopped)
    (alone_cut b input most r from old ns told ran none new is.out is.cost k t ready.0 after is.events entry)
