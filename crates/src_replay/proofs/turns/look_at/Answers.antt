use Rattle.std.proofs.Common.{◌≡◌, ◌+◌, false, refl, arith}
use Rattle.tx_memory.specs.View.{layout_of}
use Rattle.src_replay.specs.Shown.{world_of}
use Rattle.src_replay.specs.Turns.{steps_of}
use Rattle.src_replay.proofs.Arms.{stands_in, few_threads}
use Rattle.src_replay.proofs.EntrySteps.{all_skipped, on_skipped}
use Rattle.src_replay.proofs.Turning.{there, spent_ahead, spent_further, ready_there, waits_there, is_below}
use Rattle.src_replay.proofs.turns.look_at.Goals as goal

pub returns-in_default-clause-looked : goal.returns-in_default-clause-looked
returns-in_default-clause-looked c = λ program w stand going ahead goes.
    let world = c.args.world.now in
    let ns = steps_of c.args.ahead.now in
    spent_ahead program (layout_of world.memory) c.args.t w world ns world.left ahead going goes (record world { left = 0 })
    (is_below world.left c.of.result (ns c.args.t) c.in_default.ensures c.of.ensures) refl refl

pub returns-then-not-loud-clause-looked : goal.returns-then-not-loud-clause-looked
returns-then-not-loud-clause-looked c = λ program w stand going ahead goes.
    let world = c.args.world.now in
    let t = c.args.t in
    let ns = steps_of c.args.ahead.now in
    let p = layout_of world.memory in
    let rest = c.in-Some.rest in
    let new = c.skip_silent.new.self in
    let paid : ns t + rest ≡ world.left = omega (arith, c.in-Some.ensures, c.of.ensures) in
    let b = there program p t w world ns world.left ahead going goes in
    let h = on_skipped program p t (world_of world) b.here rest new c.in_ok-loud.loud
    (c.in_ok-loud.ensures.skipped program b.here stand b.is_here) c.if-not-loud.true in
    spent_further program p t w world ns world.left ahead going goes p rest paid new h

pub returns-then-is_enabled-clause-looked : goal.returns-then-is_enabled-clause-looked
returns-then-is_enabled-clause-looked c = λ program w stand going ahead goes.
    let world = c.args.world.now in
    let t = c.args.t in
    let ns = steps_of c.args.ahead.now in
    let p = layout_of world.memory in
    let rest = c.in-Some.rest in
    let new = c.skip_silent.new.self in
    let paid : ns t + rest ≡ world.left = omega (arith, c.in-Some.ensures, c.of.ensures) in
    let b = there program p t w world ns world.left ahead going goes in
    let h = all_skipped program p t (world_of world) b.here rest new c.in_ok-loud.loud
    (c.in_ok-loud.ensures.skipped program b.here stand b.is_here) c.if-not-loud.false in
    let next_is = c.next.ensures (record { state = h.skips.here; ended = false }) (stands_in t (world_of world) h.skips.here (world_of new) h.skips.world) in
    ready_there program p t w world ns world.left ahead going goes p rest paid new h
    (steps_of c.put.new.self) c.put.ensures c.next.result c.is_enabled.result next_is
    (c.is_enabled.ensures (few_threads program new h.skips.stands)) c.if-is_enabled.true h.skips.layout

pub returns-else-is_enabled-clause-looked : goal.returns-else-is_enabled-clause-looked
returns-else-is_enabled-clause-looked c = λ program w stand going ahead goes.
    let world = c.args.world.now in
    let t = c.args.t in
    let ns = steps_of c.args.ahead.now in
    let p = layout_of world.memory in
    let rest = c.in-Some.rest in
    let new = c.skip_silent.new.self in
    let paid : ns t + rest ≡ world.left = omega (arith, c.in-Some.ensures, c.of.ensures) in
    let b = there program p t w world ns world.left ahead going goes in
    let h = all_skipped program p t (world_of world) b.here rest new c.in_ok-loud.loud
    (c.in_ok-loud.ensures.skipped program b.here stand b.is_here) c.if-not-loud.false in
    let next_is = c.next.ensures (record { state = h.skips.here; ended = false }) (stands_in t (world_of world) h.skips.here (world_of new) h.skips.world) in
    waits_there program p t w world ns world.left ahead going goes p rest paid new h
    (steps_of c.put.new.self) c.put.ensures c.next.result c.is_enabled.result next_is
    (c.is_enabled.ensures (few_threads program new h.skips.stands)) c.if-is_enabled.false h.skips.layout
