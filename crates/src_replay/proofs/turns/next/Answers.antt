use Rattle.std.proofs.Common.{◌+◌, ◌%◌, ◌∙◌, refl, ap, arith}
use Rattle.tx_memory.specs.View.{layout_of}
use Rattle.src_replay.specs.Turns.{steps_of}
use Rattle.src_replay.proofs.Turning.{none_waits, started_is, wait_more, ready_first, spent_first, nobody_goes}
use Rattle.src_replay.proofs.turns.next.Goals as goal

pub loop-passed-init : goal.loop-passed-init
loop-passed-init c = record {
  left = omega arith;
  count = refl;
  wait = λ program w stand going ahead. none_waits program c.args.turn (c.args.turn + 0) w c.args.world.now (steps_of c.args.ahead.now)
      (omega arith) ahead stand;
}

pub loop-passed-preserved : goal.loop-passed-preserved
loop-passed-preserved c =
    let inv = c.loop-passed.invariant in
    let e = c.in_ok-ask.ensures in
    record {
      left = omega (arith, inv.left, e.less);
      count = e.count ∙ inv.count;
      wait = λ program w stand going ahead.
          let a = inv.wait program w stand going ahead in
          let i = c.args.turn + c.loop-passed.passed in
          let is = c.thread_of-t.ensures.is ∙ ap (λ n. i % n)
          (c.count-count.ensures ∙ started_is program w c.args.world.now (steps_of c.args.ahead.now) ahead) in
          wait_more program (layout_of c.args.world.now.memory) c.args.turn i c.thread_of-t.result w c.args.world.now.left c.loop-passed.world
          (steps_of c.loop-passed.ahead) a is c.ask.new.world (steps_of c.ask.new.ahead) c.in_ok-ask.field-0
          (e.looked program w a.looked.stands going a.looked.ahead) (c.args.turn + (c.loop-passed.passed + 1)) (omega arith) c.in-Waits.is;
    }

pub returns-in-Ready-clause-chosen : goal.returns-in-Ready-clause-chosen
returns-in-Ready-clause-chosen c = λ program w stand going ahead.
    let inv = c.loop-passed.invariant in
    let a = inv.wait program w stand going ahead in
    let i = c.args.turn + c.loop-passed.passed in
    let some = c.count-count.ensures ∙ started_is program w c.args.world.now (steps_of c.args.ahead.now) ahead in
    let is = c.thread_of-t.ensures.is ∙ ap (λ n. i % n) some in
    ready_first program (layout_of c.args.world.now.memory) c.args.turn i c.thread_of-t.result w c.args.world.now.left c.loop-passed.world
    (steps_of c.loop-passed.ahead) a is c.ask.new.world (steps_of c.ask.new.ahead) c.in_ok-ask.field-0
    (c.in_ok-ask.ensures.looked program w a.looked.stands going a.looked.ahead) (omega arith) (omega (arith, some)) c.in-Ready.is

pub returns-in-Spent-clause-chosen : goal.returns-in-Spent-clause-chosen
returns-in-Spent-clause-chosen c = λ program w stand going ahead.
    let inv = c.loop-passed.invariant in
    let a = inv.wait program w stand going ahead in
    let i = c.args.turn + c.loop-passed.passed in
    let some = c.count-count.ensures ∙ started_is program w c.args.world.now (steps_of c.args.ahead.now) ahead in
    let is = c.thread_of-t.ensures.is ∙ ap (λ n. i % n) some in
    spent_first program (layout_of c.args.world.now.memory) c.args.turn i c.thread_of-t.result w c.args.world.now.left c.loop-passed.world
    (steps_of c.loop-passed.ahead) a is c.ask.new.world (steps_of c.ask.new.ahead) c.in_ok-ask.field-0
    (c.in_ok-ask.ensures.looked program w a.looked.stands going a.looked.ahead) (omega arith) (omega (arith, some)) c.in-Spent.is

pub returns-clause-chosen : goal.returns-clause-chosen
returns-clause-chosen c = λ program w stand going ahead.
    let some = c.count-count.ensures ∙ started_is program w c.args.world.now (steps_of c.args.ahead.now) ahead in
    nobody_goes program (layout_of c.args.world.now.memory) c.args.turn (c.args.turn + c.loop-passed.passed) w c.args.world.now.left c.loop-passed.world
    (steps_of c.loop-passed.ahead) (omega (arith, some)) (c.loop-passed.invariant.wait program w stand going ahead)
