use Rattle.std.proofs.Common.{◌∙◌, refl}
use Rattle.tx_memory.specs.View.{layout_of}
use Rattle.tx_runtime.specs.View.{machine_in}
use Rattle.tx_runtime.proofs.ThreadTables.{waited_row, whole_set, whole_sound}
use Rattle.tx_runtime.proofs.access.Engine+A+A+Saved.wait.Goals as goal

pub invariant_of-self : goal.invariant_of-self
invariant_of-self g c =
    let self = c.args.self.now in
    let p = layout_of self.memory in
    record {
      whole = whole_set p self.limit self.holders self.threads.items c.args.t c.wait.new.self self.whole
          (c.wait.ensures.sound p ∙ whole_sound p self.limit self.holders self.threads.items c.args.t c.index_mut-thread.result.now self.whole
          c.requires.started
          c.index_mut-thread.ensures.value);
    }

pub returns-clause-done : goal.returns-clause-done
returns-clause-done g c =
    let self = c.args.self.now in
    waited_row g.A.Actor.state g.A.Actor.saved_state (machine_in g.A.Actor.state g.A.Actor.saved_state self) self.holders self.threads.items c.args.t
    c.args.word c.args.blockers.least c.args.blockers.eldest c.index_mut-thread.result.now c.wait.new.self
    refl refl refl c.requires.started c.index_mut-thread.ensures.value (c.wait.ensures.local self.holders c.args.t) c.wait.ensures.waits c.requires.least
