use Rattle.std.proofs.Common.{◌≡◌, ◌<◌, ◌∷◌, length, ap, sym, ◌∙◌, refl}
use Rattle.std.proofs.lemmas.Option.{same_Some}
use Rattle.tx_events.specs.declared.Event.TheVariants.{BeginAtomic}
use Rattle.tx_events.specs.declared.Reply.TheVariants.{Nothing}
use Rattle.tx_memory.specs.View.{layout_of}
use Rattle.tx_serial.specs.Machine.{Local, OpenTx, no_save}
use Rattle.tx_runtime.specs.Saves.{saves_of}
use Rattle.tx_runtime.specs.Threads.{local_of, tx_of}
use Rattle.tx_runtime.specs.View.{machine_in}
use Rattle.tx_runtime.proofs.ThreadTables.{read_at, stepped, same_holds, whole_set, whole_sound}
use Rattle.tx_runtime.proofs.TransactionParts.{open_parts, open_with, open_live}
use Rattle.tx_runtime.proofs.AppliedRow.{inside_row, started_in, at_in, answers_at}
use Rattle.tx_runtime.proofs.RowMachines.{alone_row}
use Rattle.tx_runtime.proofs.inside.Engine+A+A+Saved.begin_inner.Goals as goal

pub enter-requires-clause-answers : goal.enter-requires-clause-answers
enter-requires-clause-answers g c =
    let r = c.args.self.now in
    let q = c.ready_to_note.new.self in
    let m = machine_in g.A.Actor.state g.A.Actor.saved_state r in
    let n = machine_in g.A.Actor.state g.A.Actor.saved_state q in
    let t = c.args.t in
    let s = c.index_mut-thread.result.now in
    let same = c.in_ok-ready_to_note.ensures.same in
    let h : t < length q.threads.items = started_in g.A.Actor.state g.A.Actor.saved_state q m t same c.requires.here.1.started in
    let its = at_in g.A.Actor.state g.A.Actor.saved_state q m t s same h c.index_mut-thread.ensures.value in
    let is = c.requires.here.1.at (local_of g.A.Actor.state g.A.Actor.saved_state q.holders t s) its in
    let parts = open_parts g.A.Actor.saved_state s.tx (saves_of s.log) is.saves is.birth is.kept is.tx in
    let p = layout_of q.memory in
    let sound = whole_sound p q.limit q.holders q.threads.items t s q.whole h c.index_mut-thread.ensures.value in
    answers_at g.A.Actor.thread (g.A.Actor.state s.actor) (BeginAtomic c.requires.here.0) Nothing is.next refl

pub enter-requires-clause-capacity : goal.enter-requires-clause-capacity
enter-requires-clause-capacity g c =
    let r = c.args.self.now in
    let q = c.ready_to_note.new.self in
    let m = machine_in g.A.Actor.state g.A.Actor.saved_state r in
    let n = machine_in g.A.Actor.state g.A.Actor.saved_state q in
    let t = c.args.t in
    let s = c.index_mut-thread.result.now in
    let same = c.in_ok-ready_to_note.ensures.same in
    let h : t < length q.threads.items = started_in g.A.Actor.state g.A.Actor.saved_state q m t same c.requires.here.1.started in
    let its = at_in g.A.Actor.state g.A.Actor.saved_state q m t s same h c.index_mut-thread.ensures.value in
    let is = c.requires.here.1.at (local_of g.A.Actor.state g.A.Actor.saved_state q.holders t s) its in
    let parts = open_parts g.A.Actor.saved_state s.tx (saves_of s.log) is.saves is.birth is.kept is.tx in
    let p = layout_of q.memory in
    let sound = whole_sound p q.limit q.holders q.threads.items t s q.whole h c.index_mut-thread.ensures.value in
    (c.in_ok-ready_to_note.ensures.capacity s (read_at q.threads.items t s h c.index_mut-thread.ensures.value)).1

pub enter-requires-clause-live : goal.enter-requires-clause-live
enter-requires-clause-live g c =
    let r = c.args.self.now in
    let q = c.ready_to_note.new.self in
    let m = machine_in g.A.Actor.state g.A.Actor.saved_state r in
    let n = machine_in g.A.Actor.state g.A.Actor.saved_state q in
    let t = c.args.t in
    let s = c.index_mut-thread.result.now in
    let same = c.in_ok-ready_to_note.ensures.same in
    let h : t < length q.threads.items = started_in g.A.Actor.state g.A.Actor.saved_state q m t same c.requires.here.1.started in
    let its = at_in g.A.Actor.state g.A.Actor.saved_state q m t s same h c.index_mut-thread.ensures.value in
    let is = c.requires.here.1.at (local_of g.A.Actor.state g.A.Actor.saved_state q.holders t s) its in
    let parts = open_parts g.A.Actor.saved_state s.tx (saves_of s.log) is.saves is.birth is.kept is.tx in
    let p = layout_of q.memory in
    let sound = whole_sound p q.limit q.holders q.threads.items t s q.whole h c.index_mut-thread.ensures.value in
    open_live g.A.Actor.saved_state s.tx is.birth is.kept parts.0

pub invariant_of-self : goal.invariant_of-self
invariant_of-self g c =
    let r = c.args.self.now in
    let q = c.ready_to_note.new.self in
    let m = machine_in g.A.Actor.state g.A.Actor.saved_state r in
    let n = machine_in g.A.Actor.state g.A.Actor.saved_state q in
    let t = c.args.t in
    let s = c.index_mut-thread.result.now in
    let same = c.in_ok-ready_to_note.ensures.same in
    let h : t < length q.threads.items = started_in g.A.Actor.state g.A.Actor.saved_state q m t same c.requires.here.1.started in
    let its = at_in g.A.Actor.state g.A.Actor.saved_state q m t s same h c.index_mut-thread.ensures.value in
    let is = c.requires.here.1.at (local_of g.A.Actor.state g.A.Actor.saved_state q.holders t s) its in
    let parts = open_parts g.A.Actor.saved_state s.tx (saves_of s.log) is.saves is.birth is.kept is.tx in
    let p = layout_of q.memory in
    let sound = whole_sound p q.limit q.holders q.threads.items t s q.whole h c.index_mut-thread.ensures.value in
    record { whole = whole_set p q.limit q.holders q.threads.items t c.enter.new.self q.whole (c.enter.ensures.sound p sound) }

pub returns-clause-turned : goal.returns-clause-turned
returns-clause-turned g c = λ answer. inside_row g.A.Actor.state g.A.Actor.saved_state g.A.Actor.is_reached g.A.Actor.thread c.args.self.now answer c.args.t
    (BeginAtomic c.requires.here.0) _ c.requires.here.1 (λ l at i.
    let r = c.args.self.now in
    let q = c.ready_to_note.new.self in
    let m = machine_in g.A.Actor.state g.A.Actor.saved_state r in
    let n = machine_in g.A.Actor.state g.A.Actor.saved_state q in
    let t = c.args.t in
    let s = c.index_mut-thread.result.now in
    let same = c.in_ok-ready_to_note.ensures.same in
    let h : t < length q.threads.items = started_in g.A.Actor.state g.A.Actor.saved_state q m t same c.requires.here.1.started in
    let its = at_in g.A.Actor.state g.A.Actor.saved_state q m t s same h c.index_mut-thread.ensures.value in
    let is = c.requires.here.1.at (local_of g.A.Actor.state g.A.Actor.saved_state q.holders t s) its in
    let parts = open_parts g.A.Actor.saved_state s.tx (saves_of s.log) is.saves is.birth is.kept is.tx in
    let p = layout_of q.memory in
    let sound = whole_sound p q.limit q.holders q.threads.items t s q.whole h c.index_mut-thread.ensures.value in
    let one : local_of g.A.Actor.state g.A.Actor.saved_state q.holders t s ≡ l = same_Some _ l (sym its ∙ at) in
    let tx : tx_of g.A.Actor.saved_state s.tx (saves_of s.log) ≡ OpenTx i.birth i.kept i.saves = ap (λ (v : Local g.A.Actor.State). v.tx) one ∙ i.tx in
    let its_parts = open_parts g.A.Actor.saved_state s.tx (saves_of s.log) i.saves i.birth i.kept tx in
    let f = λ (v : Local g.A.Actor.State). record v { state = g.A.Actor.thread.after v.state Nothing; tx = OpenTx i.birth i.kept (no_save ∷ i.saves) } in
    alone_row t n m _ (f l) same
    (stepped g.A.Actor.state g.A.Actor.saved_state n q.holders q.holders q.threads.items t s c.enter.new.self l f refl refl refl h
    c.index_mut-thread.ensures.value (ap (λ z. z.threads t) same ∙ at) (same_holds t q.holders)
    (c.enter.ensures.local q.holders t ∙ ap (λ z. record (local_of g.A.Actor.state g.A.Actor.saved_state q.holders t s) {
      state = g.A.Actor.thread.after
          (g.A.Actor.state s.actor) Nothing;
      tx = z;
    })
    (open_with g.A.Actor.saved_state s.tx i.birth i.kept its_parts.0 (no_save ∷ saves_of s.log) ∙ ap (λ z. OpenTx i.birth i.kept (no_save ∷ z)) its_parts.1))
    c.enter.ensures.waits))
