use Rattle.std.proofs.Common.{◌∙◌, ap, sym, refl, false}
use Rattle.tx_memory.specs.View.{layout_of, words_of}
use Rattle.src_replay.specs.Inner.{has_size}
use Rattle.src_replay.specs.Undone.{copies}
use Rattle.src_replay.proofs.Arms.{stand_on, sized_at, stands_at}
use Rattle.src_replay.proofs.BlockSteps.{came_there, replied_there, went_in_block, stopped_in_block}
use Rattle.src_replay.proofs.world.World.step_in_block.Goals as goal

pub returns-in_ok-go_on-clause-steps : goal.returns-in_ok-go_on-clause-steps
returns-in_ok-go_on-clause-steps c = λ program w i stand at.
    let self = c.args.self.now in
    let t = c.args.t in
    let p = layout_of self.memory in
    let done = c.in_ok-done.done in
    let new = record self { memory = c.inside.new.memory; threads = c.go_on.new.self } in
    let m = words_of new.memory in
    let here = stands_at t w i self c.args.nested.now at in
    let event = c.next-event.ensures (record { state = i.state; ended = false }) here in
    let sized = ap has_size event ∙ sized_at program p self.threads.alive.items t i.state stand here in
    went_in_block program t w i p self new c.args.nested.now c.inside.new.nested done.step done.reply (sym c.goes_on.ensures ∙ c.if-goes_on.true) at
    (came_there program t w i p self c.args.nested.now m (copies c.inside.new.nested m) done.step c.next-event.result at event
    (c.in_ok-done.ensures.came sized))
    (replied_there program t w i self c.args.nested.now done.step c.next-event.result done.reply at event (c.in_ok-done.ensures.reply sized))
    (c.in_ok-go_on.ensures.set program (layout_of new.memory) i.state
    (stand_on program p (layout_of new.memory) self.threads.alive.items c.inside.ensures.layout stand) here) refl

pub returns-else-goes_on-clause-steps : goal.returns-else-goes_on-clause-steps
returns-else-goes_on-clause-steps c = λ program w i stand at.
    let self = c.args.self.now in
    let t = c.args.t in
    let p = layout_of self.memory in
    let done = c.in_ok-done.done in
    let new = record self { memory = c.inside.new.memory } in
    let m = words_of new.memory in
    let here = stands_at t w i self c.args.nested.now at in
    let event = c.next-event.ensures (record { state = i.state; ended = false }) here in
    let sized = ap has_size event ∙ sized_at program p self.threads.alive.items t i.state stand here in
    stopped_in_block program t w i p new c.inside.new.nested m (copies c.inside.new.nested m) done.step (sym c.goes_on.ensures ∙ c.if-goes_on.false)
    (came_there program t w i p self c.args.nested.now m (copies c.inside.new.nested m) done.step c.next-event.result at event
    (c.in_ok-done.ensures.came sized))
    (stand_on program p (layout_of new.memory) self.threads.alive.items c.inside.ensures.layout stand)
