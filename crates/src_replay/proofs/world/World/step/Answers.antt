use Rattle.std.proofs.Common.{false, sym, ◌∙◌}
use Rattle.src_replay.specs.Entries.{over, absent}
use Rattle.src_replay.specs.Shown.{threads_of}
use Rattle.src_replay.proofs.EntrySteps.{none_there}
use Rattle.src_replay.proofs.ThreadLists.{going_alive, thread_within}
use Rattle.src_replay.proofs.world.World.step.Goals as goal

pub returns-then-is_some-clause-stepped : goal.returns-then-is_some-clause-stepped
returns-then-is_some-clause-stepped c = λ program stand. over (sym c.is_some.ensures ∙ c.if-is_some.true)

pub returns-else-is_going-clause-stepped : goal.returns-else-is_going-clause-stepped
returns-else-is_going-clause-stepped c = λ program stand. absent (sym c.is_going.ensures ∙ c.if-is_going.false)

pub step_of-requires : goal.step_of-requires
step_of-requires c =
    let xs = c.args.self.now.threads.alive.items in
    let some = going_alive (threads_of xs c.args.t) (sym c.is_going.ensures ∙ c.if-is_going.true) in
    thread_within xs c.args.t (record { state = some.0; ended = false }) some.1

pub returns-then-is_going-clause-stepped : goal.returns-then-is_going-clause-stepped
returns-then-is_going-clause-stepped c = λ program stand.
    let self = c.args.self.now in
    let some = going_alive (threads_of self.threads.alive.items c.args.t) (sym c.is_going.ensures ∙ c.if-is_going.true) in
    c.step_of.ensures.stepped program some.0 stand (none_there self.end (sym c.is_some.ensures ∙ c.if-is_some.false)) some.1
