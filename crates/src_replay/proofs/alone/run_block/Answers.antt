use Rattle.std.proofs.Common.{◌≡◌, ◌+◌, ◌++◌, ◌∷◌, [], length, refl, ap, sym, ◌∙◌, subst, arith, false}
use Rattle.std.proofs.lemmas.Result.{IfOk-weaker}
use Rattle.tx_memory.specs.View.{layout_of}
use Rattle.src_replay.specs.declared.world.World.{World}
use Rattle.src_replay.specs.Entries.{is_enabled}
use Rattle.src_replay.specs.Seen.{SeenBlock}
use Rattle.src_replay.specs.Shown.{world_of}
use Rattle.src_replay.specs.Undone.{IsNested}
use Rattle.src_replay.proofs.Arms.{stands_in, stands_at}
use Rattle.src_replay.proofs.EntrySteps.{has_paid}
use Rattle.src_replay.proofs.Undone.{first_block}
use Rattle.src_replay.proofs.BlockSteps.{inner_on, at_goes, at_leaves, at_halts, at_never}
use Rattle.src_replay.proofs.BlockEntries.{some_mark, never_shut}
use Rattle.src_replay.proofs.SeenBlocks.{seen_start, seen_more, seen_left, seen_halted, seen_refused, seen_spent, never_comes}
use Rattle.src_replay.proofs.alone.run_block.Goals as goal

pub loop-taken-init : goal.loop-taken-init
loop-taken-init c =
    let world = c.args.world.now in
    let first = c.new-nested.result in
    let nested = c.begin.new.self in
    let now = record world { threads = c.go_on.new.self } in
    let p = layout_of world.memory in
    let notes = c.in_ok-begin.ensures.notes in
    let marks = c.in_ok-begin.ensures.marks in
    record {
      left = omega arith;
      count = c.in_ok-go_on.ensures.count;
      layout = refl;
      nested = first_block p nested first.marks.items (notes ∙ c.new-nested.ensures.notes) c.new-nested.ensures.marks
          (marks ∙ ap (λ ns. first.marks.items ++ length ns ∷ []) c.new-nested.ensures.notes);
      marked = some_mark nested.marks.items first.marks.items (length first.notes.items) marks c.new-nested.ensures.marks;
      run = λ program w s stand e. seen_start program p c.args.t w s c.args.event world.left c.args.events.now.items world now first nested
          c.push.new.self.items e
          (c.in_ok-go_on.ensures.set program p s stand
          (stands_in c.args.t w s
          (world_of world) e)) refl c.new-nested.ensures.notes c.new-nested.ensures.marks notes marks refl c.in_ok-push.ensures.items;
    }

pub loop-taken-preserved : goal.loop-taken-preserved
loop-taken-preserved c =
    let world = c.args.world.now in
    let p = layout_of world.memory in
    let old = c.loop-taken.world in
    let before = c.loop-taken.nested in
    let mid = c.step_in_block.new.self in
    let nested = c.step_in_block.new.nested in
    let paid = c.pay.new.self in
    let inv = c.loop-taken.invariant in
    let kept = ap (λ (z : World). z.left) c.in_ok-step.ensures.same in
    let same = c.pay.ensures.same in
    let less : paid.left + 1 ≡ mid.left = has_paid c.pay.result paid.left mid.left c.pay.ensures.paid c.pay.ensures.spent
    (omega (arith, inv.left, kept, c.loop-taken-test.true)) in
    let layout = c.in_ok-step.ensures.layout ∙ inv.layout in
    record {
      left = omega (arith, inv.left, kept, less);
      count = ap (λ (z : World). length z.threads.alive.items) same ∙ (c.in_ok-step.ensures.count ∙ inv.count);
      layout = ap (λ (z : World). layout_of z.memory) same ∙ layout;
      nested = subst (λ z. IsNested z nested) (sym (ap (λ (z : World). layout_of z.memory) same ∙ c.in_ok-step.ensures.layout)) c.in_ok-step.ensures.nested;
      marked = c.is_open.ensures.«open» c.if-not-is_open.false;
      run = λ program w s stand e.
          let h : SeenBlock program p c.args.t w s c.args.event world.left old before c.args.events.now.items c.loop-taken.events.items =
          inv.run program w s stand e in
          let inner = inner_on program p (layout_of old.memory) c.args.t w h.block.last mid nested c.in_ok-step.step inv.layout
          (c.in_ok-step.ensures.steps program w h.block.last h.block.stands h.block.at) in
          let here = c.next-inner.ensures (record { state = h.block.last.state; ended = false }) (stands_at c.args.t w h.block.last old before h.block.at) in
          seen_more program p c.args.t w s c.args.event world.left c.args.events.now.items old mid paid before nested c.loop-taken.events.items
          c.note.new.events.items c.next-inner.result h
          (at_goes program p c.args.t w h.block.last mid nested c.in_ok-step.step c.in-Goes.is inner) inner.stands kept same less here c.in_ok-note.ensures;
    }

pub returns-then-not-comes_inside-clause-seen : goal.returns-then-not-comes_inside-clause-seen
returns-then-not-comes_inside-clause-seen c = λ program w s kind stand going e begins is enabled.
    let world = c.args.world.now in
    let p = layout_of world.memory in
    let old = c.loop-taken.world in
    let before = c.loop-taken.nested in
    let inv = c.loop-taken.invariant in
    let h : SeenBlock program p c.args.t w s c.args.event world.left old before c.args.events.now.items c.loop-taken.events.items =
    inv.run program w s stand e in
    let here = c.next-inner.ensures (record { state = h.block.last.state; ended = false }) (stands_at c.args.t w h.block.last old before h.block.at) in
    seen_refused program p c.args.t w s c.args.event world.left c.args.events.now.items kind (begins ∙ is) is
    (ap (λ z. is_enabled c.args.t w z) (sym is)
    ∙ enabled) old before c.loop-taken.events.items c.next-inner.result c.comes_inside.result h here c.comes_inside.ensures c.if-not-comes_inside.true

pub returns-then-not-is_open-clause-seen : goal.returns-then-not-is_open-clause-seen
returns-then-not-is_open-clause-seen c = λ program w s kind stand going e begins is enabled.
    let world = c.args.world.now in
    let p = layout_of world.memory in
    let old = c.loop-taken.world in
    let before = c.loop-taken.nested in
    let mid = c.step_in_block.new.self in
    let nested = c.step_in_block.new.nested in
    let inv = c.loop-taken.invariant in
    let h : SeenBlock program p c.args.t w s c.args.event world.left old before c.args.events.now.items c.loop-taken.events.items =
    inv.run program w s stand e in
    let inner = inner_on program p (layout_of old.memory) c.args.t w h.block.last mid nested c.in_ok-step.step inv.layout
    (c.in_ok-step.ensures.steps program w h.block.last h.block.stands h.block.at) in
    absurd (never_shut program p c.args.t w s world.left mid nested h.block.last old before h.block
    (at_goes program p c.args.t w h.block.last mid nested c.in_ok-step.step c.in-Goes.is inner) (c.is_open.ensures.shut c.if-not-is_open.true))

pub returns-in-Leaves-clause-seen : goal.returns-in-Leaves-clause-seen
returns-in-Leaves-clause-seen c = λ program w s kind stand going e begins is enabled.
    let world = c.args.world.now in
    let p = layout_of world.memory in
    let old = c.loop-taken.world in
    let before = c.loop-taken.nested in
    let mid = c.step_in_block.new.self in
    let nested = c.step_in_block.new.nested in
    let paid = c.pay.new.self in
    let inv = c.loop-taken.invariant in
    let kept = ap (λ (z : World). z.left) c.in_ok-step.ensures.same in
    let same = c.pay.ensures.same in
    let less : paid.left + 1 ≡ mid.left = has_paid c.pay.result paid.left mid.left c.pay.ensures.paid c.pay.ensures.spent
    (omega (arith, inv.left, kept, c.loop-taken-test.true)) in
    let layout = c.in_ok-step.ensures.layout ∙ inv.layout in
    let h : SeenBlock program p c.args.t w s c.args.event world.left old before c.args.events.now.items c.loop-taken.events.items =
    inv.run program w s stand e in
    let inner = inner_on program p (layout_of old.memory) c.args.t w h.block.last mid nested c.in_ok-step.step inv.layout
    (c.in_ok-step.ensures.steps program w h.block.last h.block.stands h.block.at) in
    let here = c.next-inner.ensures (record { state = h.block.last.state; ended = false }) (stands_at c.args.t w h.block.last old before h.block.at) in
    seen_left program p c.args.t w s c.args.event world.left c.args.events.now.items kind (begins ∙ is) is
    (ap (λ z. is_enabled c.args.t w z) (sym is) ∙ enabled) old mid paid before c.loop-taken.events.items c.note.new.events.items c.next-inner.result h
    (at_leaves program p c.args.t w h.block.last mid nested c.in_ok-step.step c.in-Leaves.is inner) inner.stands layout kept same less here c.in_ok-note.ensures

pub returns-in-Halts-clause-seen : goal.returns-in-Halts-clause-seen
returns-in-Halts-clause-seen c = λ program w s kind stand going e begins is enabled.
    let world = c.args.world.now in
    let p = layout_of world.memory in
    let old = c.loop-taken.world in
    let before = c.loop-taken.nested in
    let mid = c.step_in_block.new.self in
    let nested = c.step_in_block.new.nested in
    let paid = c.pay.new.self in
    let inv = c.loop-taken.invariant in
    let kept = ap (λ (z : World). z.left) c.in_ok-step.ensures.same in
    let same = c.pay.ensures.same in
    let less : paid.left + 1 ≡ mid.left = has_paid c.pay.result paid.left mid.left c.pay.ensures.paid c.pay.ensures.spent
    (omega (arith, inv.left, kept, c.loop-taken-test.true)) in
    let layout = c.in_ok-step.ensures.layout ∙ inv.layout in
    let h : SeenBlock program p c.args.t w s c.args.event world.left old before c.args.events.now.items c.loop-taken.events.items =
    inv.run program w s stand e in
    let inner = inner_on program p (layout_of old.memory) c.args.t w h.block.last mid nested c.in_ok-step.step inv.layout
    (c.in_ok-step.ensures.steps program w h.block.last h.block.stands h.block.at) in
    let here = c.next-inner.ensures (record { state = h.block.last.state; ended = false }) (stands_at c.args.t w h.block.last old before h.block.at) in
    IfOk-weaker c.halt.result _ _ (λ r n. seen_halted program p c.args.t w s c.args.event world.left c.args.events.now.items kind (begins ∙ is) is
    (ap (λ z. is_enabled c.args.t w z) (sym is) ∙ enabled) old mid paid c.halt.new.self before c.in-Halts.end r
    c.loop-taken.events.items c.note.new.events.items c.next-inner.result h
    (at_halts program p c.args.t w h.block.last mid nested c.in_ok-step.step c.in-Halts.end c.in-Halts.is inner) inner.stands layout c.in_ok-step.ensures.count
    c.in_ok-step.ensures.same same less n here c.in_ok-note.ensures) c.halt.ensures.halted

pub returns-in-Never-clause-seen : goal.returns-in-Never-clause-seen
returns-in-Never-clause-seen c = λ program w s kind stand going e begins is enabled.
    let world = c.args.world.now in
    let p = layout_of world.memory in
    let old = c.loop-taken.world in
    let before = c.loop-taken.nested in
    let mid = c.step_in_block.new.self in
    let nested = c.step_in_block.new.nested in
    let inv = c.loop-taken.invariant in
    let h : SeenBlock program p c.args.t w s c.args.event world.left old before c.args.events.now.items c.loop-taken.events.items =
    inv.run program w s stand e in
    let inner = inner_on program p (layout_of old.memory) c.args.t w h.block.last mid nested c.in_ok-step.step inv.layout
    (c.in_ok-step.ensures.steps program w h.block.last h.block.stands h.block.at) in
    let here = c.next-inner.ensures (record { state = h.block.last.state; ended = false }) (stands_at c.args.t w h.block.last old before h.block.at) in
    absurd (never_comes program p c.args.t w s c.args.event world.left c.args.events.now.items kind (begins ∙ is) is
    (ap (λ z. is_enabled c.args.t w z) (sym is)
    ∙ enabled) old before h.block c.next-inner.result c.comes_inside.result here c.comes_inside.ensures c.if-not-comes_inside.false
    (at_never program p c.args.t w h.block.last mid nested c.in_ok-step.step c.in-Never.is inner))

pub returns-then-comes_inside-clause-seen : goal.returns-then-comes_inside-clause-seen
returns-then-comes_inside-clause-seen c = λ program w s kind stand going e begins is enabled.
    let world = c.args.world.now in
    let p = layout_of world.memory in
    let old = c.loop-taken.world in
    let before = c.loop-taken.nested in
    let inv = c.loop-taken.invariant in
    let h : SeenBlock program p c.args.t w s c.args.event world.left old before c.args.events.now.items c.loop-taken.events.items =
    inv.run program w s stand e in
    let here = c.next.ensures (record { state = h.block.last.state; ended = false }) (stands_at c.args.t w h.block.last old before h.block.at) in
    seen_spent program p c.args.t w s c.args.event world.left c.args.events.now.items kind (begins ∙ is) is
    (ap (λ z. is_enabled c.args.t w z) (sym is)
    ∙ enabled) old before c.loop-taken.events.items c.next.result c.comes_inside-2.result h here c.comes_inside-2.ensures c.if-comes_inside.true
    (omega (arith, inv.left, c.loop-taken-test.false))

pub returns-clause-seen : goal.returns-clause-seen
returns-clause-seen c = λ program w s kind stand going e begins is enabled.
    let world = c.args.world.now in
    let p = layout_of world.memory in
    let old = c.loop-taken.world in
    let before = c.loop-taken.nested in
    let inv = c.loop-taken.invariant in
    let h : SeenBlock program p c.args.t w s c.args.event world.left old before c.args.events.now.items c.loop-taken.events.items =
    inv.run program w s stand e in
    let here = c.next.ensures (record { state = h.block.last.state; ended = false }) (stands_at c.args.t w h.block.last old before h.block.at) in
    seen_refused program p c.args.t w s c.args.event world.left c.args.events.now.items kind (begins ∙ is) is
    (ap (λ z. is_enabled c.args.t w z) (sym is)
    ∙ enabled) old before c.loop-taken.events.items c.next.result c.comes_inside-2.result h here c.comes_inside-2.ensures c.if-comes_inside.false
