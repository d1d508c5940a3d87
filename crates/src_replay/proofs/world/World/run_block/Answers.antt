use Rattle.std.proofs.Common.{◌≡◌, ◌+◌, ◌++◌, ◌∷◌, [], length, refl, ap, sym, ◌∙◌, subst, arith, false}
use Rattle.std.proofs.lemmas.Result.{IfOk-weaker}
use Rattle.tx_memory.specs.View.{layout_of}
use Rattle.src_replay.specs.declared.world.World.{World}
use Rattle.src_replay.specs.Shown.{world_of, BlockRun}
use Rattle.src_replay.specs.Undone.{IsNested}
use Rattle.src_replay.proofs.Arms.{stands_in, stands_at}
use Rattle.src_replay.proofs.EntrySteps.{has_paid}
use Rattle.src_replay.proofs.Undone.{first_block}
use Rattle.src_replay.proofs.BlockSteps.{inner_on, at_goes, at_leaves, at_halts, at_never}
use Rattle.src_replay.proofs.BlockEntries.{some_mark, block_start, block_more, never_shut, block_left, block_halted, block_never, block_refused, block_spent}
use Rattle.src_replay.proofs.world.World.run_block.Goals as goal

pub loop-taken-init : goal.loop-taken-init
loop-taken-init c =
    let self = c.args.self.now in
    let first = c.new-nested.result in
    let nested = c.begin.new.self in
    let now = record self { threads = c.go_on.new.self } in
    let p = layout_of self.memory in
    let notes = c.in_ok-begin.ensures.notes in
    let marks = c.in_ok-begin.ensures.marks in
    record {
      left = omega arith;
      count = c.in_ok-go_on.ensures.count;
      layout = refl;
      nested = first_block p nested first.marks.items (notes ∙ c.new-nested.ensures.notes) c.new-nested.ensures.marks
          (marks ∙ ap (λ ns. first.marks.items ++ length ns ∷ []) c.new-nested.ensures.notes);
      marked = some_mark nested.marks.items first.marks.items (length first.notes.items) marks c.new-nested.ensures.marks;
      run = λ program w s stand e. block_start program p c.args.t w s self.left self now first nested e
          (c.in_ok-go_on.ensures.set program p s stand
          (stands_in c.args.t w s (world_of self) e)) refl c.new-nested.ensures.notes c.new-nested.ensures.marks notes marks refl;
    }

pub loop-taken-preserved : goal.loop-taken-preserved
loop-taken-preserved c =
    let self = c.args.self.now in
    let t = c.args.t in
    let p = layout_of self.memory in
    let old = c.loop-taken.self in
    let before = c.loop-taken.nested in
    let mid = c.step_in_block.new.self in
    let nested = c.step_in_block.new.nested in
    let paid = c.pay.new.self in
    let inv = c.loop-taken.invariant in
    let kept = ap (λ (z : World). z.left) c.in_ok-step.ensures.same in
    let same = c.pay.ensures.same in
    let less : paid.left + 1 ≡ mid.left = has_paid c.pay.result paid.left mid.left c.pay.ensures.paid c.pay.ensures.spent
    (omega (arith, inv.left, kept, c.loop-taken-test.true)) in
    let layout = c.in_ok-step.ensures.layout ∙ inv.layout in
    record {
      left = omega (arith, inv.left, kept, less);
      count = ap (λ (z : World). length z.threads.alive.items) same ∙ (c.in_ok-step.ensures.count ∙ inv.count);
      layout = ap (λ (z : World). layout_of z.memory) same ∙ layout;
      nested = subst (λ z. IsNested z nested) (sym (ap (λ (z : World). layout_of z.memory) same ∙ c.in_ok-step.ensures.layout)) c.in_ok-step.ensures.nested;
      marked = c.is_open.ensures.«open» c.if-not-is_open.false;
      run = λ program w s stand e.
          let h : BlockRun program p t w s self.left old before = inv.run program w s stand e in
          let inner = inner_on program p (layout_of old.memory) t w h.last mid nested c.in_ok-step.step inv.layout
          (c.in_ok-step.ensures.steps program w h.last h.stands h.at) in
          block_more program p t w s self.left old mid paid before nested h
          (at_goes program p t w h.last mid nested c.in_ok-step.step c.in-Goes.is inner) inner.stands kept same less;
    }

pub returns-then-not-is_open-clause-acted : goal.returns-then-not-is_open-clause-acted
returns-then-not-is_open-clause-acted c = λ program w s kind stand going e begins enabled.
    let self = c.args.self.now in
    let t = c.args.t in
    let p = layout_of self.memory in
    let old = c.loop-taken.self in
    let before = c.loop-taken.nested in
    let mid = c.step_in_block.new.self in
    let nested = c.step_in_block.new.nested in
    let paid = c.pay.new.self in
    let inv = c.loop-taken.invariant in
    let kept = ap (λ (z : World). z.left) c.in_ok-step.ensures.same in
    let same = c.pay.ensures.same in
    let less : paid.left + 1 ≡ mid.left = has_paid c.pay.result paid.left mid.left c.pay.ensures.paid c.pay.ensures.spent
    (omega (arith, inv.left, kept, c.loop-taken-test.true)) in
    let layout = c.in_ok-step.ensures.layout ∙ inv.layout in
    let h : BlockRun program p t w s self.left old before = inv.run program w s stand e in
    let inner = inner_on program p (layout_of old.memory) t w h.last mid nested c.in_ok-step.step inv.layout
    (c.in_ok-step.ensures.steps program w h.last h.stands h.at) in
    absurd (never_shut program p t w s self.left mid nested h.last old before h (at_goes program p t w h.last mid nested c.in_ok-step.step c.in-Goes.is inner)
    (c.is_open.ensures.shut c.if-not-is_open.true))

pub returns-in-Leaves-clause-acted : goal.returns-in-Leaves-clause-acted
returns-in-Leaves-clause-acted c = λ program w s kind stand going e begins enabled.
    let self = c.args.self.now in
    let t = c.args.t in
    let p = layout_of self.memory in
    let old = c.loop-taken.self in
    let before = c.loop-taken.nested in
    let mid = c.step_in_block.new.self in
    let nested = c.step_in_block.new.nested in
    let paid = c.pay.new.self in
    let inv = c.loop-taken.invariant in
    let kept = ap (λ (z : World). z.left) c.in_ok-step.ensures.same in
    let same = c.pay.ensures.same in
    let less : paid.left + 1 ≡ mid.left = has_paid c.pay.result paid.left mid.left c.pay.ensures.paid c.pay.ensures.spent
    (omega (arith, inv.left, kept, c.loop-taken-test.true)) in
    let layout = c.in_ok-step.ensures.layout ∙ inv.layout in
    let h : BlockRun program p t w s self.left old before = inv.run program w s stand e in
    let inner = inner_on program p (layout_of old.memory) t w h.last mid nested c.in_ok-step.step inv.layout
    (c.in_ok-step.ensures.steps program w h.last h.stands h.at) in
    block_left program p t w s self.left kind begins enabled old mid paid before h
    (at_leaves program p t w h.last mid nested c.in_ok-step.step c.in-Leaves.is inner) inner.stands layout kept same less

pub returns-in-Halts-clause-acted : goal.returns-in-Halts-clause-acted
returns-in-Halts-clause-acted c = λ program w s kind stand going e begins enabled.
    let self = c.args.self.now in
    let t = c.args.t in
    let p = layout_of self.memory in
    let old = c.loop-taken.self in
    let before = c.loop-taken.nested in
    let mid = c.step_in_block.new.self in
    let nested = c.step_in_block.new.nested in
    let paid = c.pay.new.self in
    let inv = c.loop-taken.invariant in
    let kept = ap (λ (z : World). z.left) c.in_ok-step.ensures.same in
    let same = c.pay.ensures.same in
    let less : paid.left + 1 ≡ mid.left = has_paid c.pay.result paid.left mid.left c.pay.ensures.paid c.pay.ensures.spent
    (omega (arith, inv.left, kept, c.loop-taken-test.true)) in
    let layout = c.in_ok-step.ensures.layout ∙ inv.layout in
    let h : BlockRun program p t w s self.left old before = inv.run program w s stand e in
    let inner = inner_on program p (layout_of old.memory) t w h.last mid nested c.in_ok-step.step inv.layout
    (c.in_ok-step.ensures.steps program w h.last h.stands h.at) in
    IfOk-weaker c.halt.result _ _ (λ r n. block_halted program p t w s self.left kind begins enabled old mid paid c.halt.new.self before c.in-Halts.end r h
    (at_halts program p t w h.last mid nested c.in_ok-step.step c.in-Halts.end c.in-Halts.is inner) inner.stands layout c.in_ok-step.ensures.count c.in_ok-step.ensures.same
    same less n)
    c.halt.ensures.halted

pub returns-in-Never-clause-acted : goal.returns-in-Never-clause-acted
returns-in-Never-clause-acted c = λ program w s kind stand going e begins enabled.
    let self = c.args.self.now in
    let t = c.args.t in
    let p = layout_of self.memory in
    let old = c.loop-taken.self in
    let before = c.loop-taken.nested in
    let mid = c.step_in_block.new.self in
    let nested = c.step_in_block.new.nested in
    let inv = c.loop-taken.invariant in
    let h : BlockRun program p t w s self.left old before = inv.run program w s stand e in
    let inner = inner_on program p (layout_of old.memory) t w h.last mid nested c.in_ok-step.step inv.layout
    (c.in_ok-step.ensures.steps program w h.last h.stands h.at) in
    block_never program p t w s self.left kind begins enabled old before h (at_never program p t w h.last mid nested c.in_ok-step.step c.in-Never.is inner)

pub returns-then-comes_inside-clause-acted : goal.returns-then-comes_inside-clause-acted
returns-then-comes_inside-clause-acted c = λ program w s kind stand going e begins enabled.
    let self = c.args.self.now in
    let t = c.args.t in
    let p = layout_of self.memory in
    let old = c.loop-taken.self in
    let before = c.loop-taken.nested in
    let inv = c.loop-taken.invariant in
    let h : BlockRun program p t w s self.left old before = inv.run program w s stand e in
    let event = c.next.ensures (record { state = h.last.state; ended = false }) (stands_at t w h.last old before h.at) in
    block_spent program p t w s self.left kind begins enabled old before h c.next.result c.comes_inside.result event c.comes_inside.ensures
    c.if-comes_inside.true (omega (arith, inv.left, c.loop-taken-test.false))

pub returns-clause-acted : goal.returns-clause-acted
returns-clause-acted c = λ program w s kind stand going e begins enabled.
    let self = c.args.self.now in
    let t = c.args.t in
    let p = layout_of self.memory in
    let old = c.loop-taken.self in
    let before = c.loop-taken.nested in
    let inv = c.loop-taken.invariant in
    let h : BlockRun program p t w s self.left old before = inv.run program w s stand e in
    let event = c.next.ensures (record { state = h.last.state; ended = false }) (stands_at t w h.last old before h.at) in
    block_refused program p t w s self.left kind begins enabled old before h c.next.result c.comes_inside.result event c.comes_inside.ensures
    c.if-comes_inside.false
