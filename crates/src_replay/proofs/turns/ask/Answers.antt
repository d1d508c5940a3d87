use Rattle.std.proofs.Common.{refl, sym, ◌∙◌}
use Rattle.tx_memory.specs.View.{layout_of}
use Rattle.src_mean.specs.Source.{source}
use Rattle.src_replay.specs.Shown.{threads_of}
use Rattle.src_replay.specs.Turns.{steps_of}
use Rattle.src_replay.proofs.Further.{going_same}
use Rattle.src_replay.proofs.Turning.{waits_absent}
use Rattle.src_replay.proofs.turns.ask.Goals as goal

pub returns-else-is_going-clause-looked : goal.returns-else-is_going-clause-looked
returns-else-is_going-clause-looked c = λ program w stand going ahead.
    let world = c.args.world.now in
    waits_absent program (layout_of world.memory) c.args.t w world (steps_of c.args.ahead.now) world.left ahead stand refl refl
    (sym c.is_going.ensures ∙ c.if-is_going.false)

pub returns-then-is_going-clause-looked : goal.returns-then-is_going-clause-looked
returns-then-is_going-clause-looked c = λ program w stand going ahead.
    let t = c.args.t in
    let there = threads_of c.args.world.now.threads.alive.items t in
    let same = going_same (source program) (w.threads t) there (steps_of c.args.ahead.now t) (ahead.each t) in
    c.look_at.ensures.looked program w stand going ahead (sym same ∙ (sym c.is_going.ensures ∙ c.if-is_going.true))
