use Rattle.std.proofs.Common.{◌∙◌, refl}
use Rattle.tx_memory.specs.View.{layout_of}
use Rattle.tx_serial.specs.Machine.{Local}
use Rattle.tx_runtime.specs.Threads.{local_of}
use Rattle.tx_runtime.specs.View.{machine_in}
use Rattle.tx_runtime.proofs.ThreadTables.{thread_at, whole_set, whole_sound, stepped, same_holds}
use Rattle.tx_runtime.proofs.engine.Engine+A+A+Saved.step.Goals as goal

pub go_on-requires-clause-answers : goal.go_on-requires-clause-answers
go_on-requires-clause-answers g c =
    let self = c.args.self.now in
    let s = c.index_mut-thread.result.now in
    c.requires.answers (local_of g.A.Actor.state g.A.Actor.saved_state self.holders c.args.t s)
    (thread_at g.A.Actor.state g.A.Actor.saved_state self.holders self.threads.items c.args.t s c.requires.started c.index_mut-thread.ensures.value)

pub invariant_of-self : goal.invariant_of-self
invariant_of-self g c =
    let self = c.args.self.now in
    let p = layout_of self.memory in
    record {
      whole = whole_set p self.limit self.holders self.threads.items c.args.t c.go_on.new.self self.whole
          (c.go_on.ensures.sound p ∙ whole_sound p self.limit self.holders self.threads.items c.args.t c.index_mut-thread.result.now self.whole
          c.requires.started
          c.index_mut-thread.ensures.value);
    }

pub returns-clause-done : goal.returns-clause-done
returns-clause-done g c = λ l at.
    let self = c.args.self.now in
    stepped g.A.Actor.state g.A.Actor.saved_state (machine_in g.A.Actor.state g.A.Actor.saved_state self) self.holders self.holders self.threads.items c.args.t
    c.index_mut-thread.result.now c.go_on.new.self l
    (λ (v : Local g.A.Actor.State). record v {
      state =
          g.A.Actor.thread.after v.state c.args.reply;
    }) refl refl refl c.requires.started c.index_mut-thread.ensures.value at (same_holds c.args.t self.holders)
    (c.go_on.ensures.local self.holders c.args.t) c.go_on.ensures.waits
