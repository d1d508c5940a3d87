use Rattle.std.proofs.Common.{◌∙◌}
use Rattle.std.proofs.Math.ListN.{length-set}
use Rattle.tx_memory.specs.View.{layout_of}
use Rattle.tx_runtime.specs.View.{machine_in}
use Rattle.tx_runtime.proofs.ThreadTables.{same_thread, same_waits, whole_set, whole_sound, changed, on_ok, note_ready_set}
use Rattle.tx_runtime.proofs.engine.Engine+A+A+Saved.ready_to_note.Goals as goal

pub invariant_of-self : goal.invariant_of-self
invariant_of-self g c =
    let self = c.args.self.now in
    let p = layout_of self.memory in
    record {
      whole = whole_set p self.limit self.holders self.threads.items c.args.t c.ready_to_note.new.self self.whole
          (c.ready_to_note.ensures.sound p ∙ whole_sound p self.limit self.holders self.threads.items c.args.t c.index_mut-thread.result.now self.whole
          c.requires
          c.index_mut-thread.ensures.value);
    }

pub returns-clause-capacity : goal.returns-clause-capacity
returns-clause-capacity g c =
    let self = c.args.self.now in
    on_ok c.ready_to_note.result
    (λ h. note_ready_set g.A.Actor.has_capacity self.threads.items c.args.t c.ready_to_note.new.self c.requires h.0 h.1) c.ready_to_note.ensures.capacity

pub returns-clause-same : goal.returns-clause-same
returns-clause-same g c =
    let self = c.args.self.now in
    let m = machine_in g.A.Actor.state g.A.Actor.saved_state self in
    changed m _ m.threads _ m.waits _
    (same_thread g.A.Actor.state g.A.Actor.saved_state self.holders self.threads.items c.args.t c.index_mut-thread.result.now c.ready_to_note.new.self
    c.requires c.index_mut-thread.ensures.value (c.ready_to_note.ensures.local self.holders c.args.t))
    (same_waits self.threads.items c.args.t c.index_mut-thread.result.now c.ready_to_note.new.self c.requires c.index_mut-thread.ensures.value
    c.ready_to_note.ensures.waits)
    (length-set self.threads.items c.args.t c.ready_to_note.new.self)
