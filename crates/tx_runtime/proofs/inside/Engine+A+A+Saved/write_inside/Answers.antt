use Rattle.std.proofs.Common.{◌≡◌, ◌<◌, length, ap, sym, ◌∙◌, refl, None, true, subst, cond}
use Rattle.std.proofs.Math.ListN.{set}
use Rattle.std.proofs.lemmas.Option.{same_Some}
use Rattle.std.proofs.lemmas.Bool.{true≢false}
use Rattle.own_table.specs.declared.hold.Mode.TheVariants.{Write}
use Rattle.own_table.specs.Records.{blocks}
use Rattle.tx_events.specs.declared.Event.TheVariants.{Store}
use Rattle.tx_events.specs.declared.Reply.TheVariants.{Nothing}
use Rattle.tx_events.specs.Memory.{update, can_access, store, word_of}
use Rattle.tx_memory.specs.View.{layout_of, words_of}
use Rattle.tx_serial.specs.Machine.{Local, OpenTx, note, blocker, birth_of}
use Rattle.tx_runtime.specs.Saves.{saves_of}
use Rattle.tx_runtime.specs.Threads.{local_of, held_in, wrote_in, IsWhole}
use Rattle.tx_runtime.specs.View.{machine_in, layout_in}
use Rattle.tx_runtime.proofs.ConflictingThreads.{unblocked}
use Rattle.tx_runtime.proofs.ThreadTables.{read_at, started_thread, stepped, same_threads, whole_set, whole_sound, on_err}
use Rattle.tx_runtime.proofs.AccessSizes.{store_fits}
use Rattle.tx_runtime.proofs.HoldLemmas.{access_word, one_after, others_same, taken_held, taken_write, whole_hold, write_local}
use Rattle.tx_runtime.proofs.TransactionParts.{open_parts, open_with, open_live}
use Rattle.tx_runtime.proofs.InsideRows.{store_done_in}
use Rattle.tx_runtime.proofs.OutsideRows.{loaded_none}
use Rattle.tx_runtime.proofs.AppliedRow.{inside_row, started_in, at_in, answers_at}
use Rattle.tx_runtime.proofs.RowMachines.{memory_row}
use Rattle.tx_runtime.proofs.inside.Engine+A+A+Saved.write_inside.Goals as goal

pub unreachable-requires : goal.unreachable-requires
unreachable-requires g c =
    let access_r : can_access (layout_in c.args.self.now) c.word_of-word.result 8 ≡ true =
    ap (λ x. can_access (layout_in c.args.self.now) x 8) c.word_of-word.ensures
    ∙ access_word (layout_in c.args.self.now) c.args.addr c.args.size c.requires.access in
    true≢false (sym access_r ∙ loaded_none _ _ _ c.load.ensures.value c.in_default.is)

pub returns-in_err-reserve-clause-same : goal.returns-in_err-reserve-clause-same
returns-in_err-reserve-clause-same g c =
    let q = c.ready_to_note.new.self in
    on_err c.from_residual-in_err-reserve.result (ap (λ f. record (machine_in g.A.Actor.state g.A.Actor.saved_state q) { threads = f })
    (same_threads g.A.Actor.state g.A.Actor.saved_state q.holders c.reserve.new.self q.threads.items c.reserve.ensures.same)
    ∙ c.in_ok-ready_to_note.ensures.same)

pub take-requires-clause-unblocked : goal.take-requires-clause-unblocked
take-requires-clause-unblocked g c = λ u d.
    let q = c.ready_to_note.new.self in
    let n = machine_in g.A.Actor.state g.A.Actor.saved_state q in
    let t = c.args.t in
    let word = c.word_of-word.result in
    let same = c.in_ok-ready_to_note.ensures.same in
    let free : blocker t true word n ≡ None = ap (λ z. blocker t true word z) same
    ∙ (ap (λ x. blocker t true x (machine_in g.A.Actor.state g.A.Actor.saved_state c.args.self.now)) c.word_of-word.ensures ∙ c.requires.free) in
    ap (λ o. blocks o true) (c.reserve.ensures.same u word)
    ∙ unblocked g.A.Actor.state g.A.Actor.saved_state q.holders q.threads.items t n.started word true
    (λ v. birth_of (n.threads v)) refl q.whole.free free u d

pub store-requires-clause-size : goal.store-requires-clause-size
store-requires-clause-size g c =
    let there = started_thread g.A.Actor.state g.A.Actor.saved_state c.args.self.now c.args.t c.requires.here.1.started in
    let isf = c.requires.here.1.at there.0 there.1 in
    let fits = store_fits g.met.A.Actor.laws there.0.state isf.reached c.args.addr c.args.size c.args.value c.requires.here.0 isf.next in
    fits.0

pub store-requires-clause-value : goal.store-requires-clause-value
store-requires-clause-value g c =
    let there = started_thread g.A.Actor.state g.A.Actor.saved_state c.args.self.now c.args.t c.requires.here.1.started in
    let isf = c.requires.here.1.at there.0 there.1 in
    let fits = store_fits g.met.A.Actor.laws there.0.state isf.reached c.args.addr c.args.size c.args.value c.requires.here.0 isf.next in
    fits.1

pub write-requires-clause-actor : goal.write-requires-clause-actor
write-requires-clause-actor g c =
    let r = c.args.self.now in
    let q = c.ready_to_note.new.self in
    let m = machine_in g.A.Actor.state g.A.Actor.saved_state r in
    let n = machine_in g.A.Actor.state g.A.Actor.saved_state q in
    let t = c.args.t in
    let s = c.index_mut-thread.result.now in
    let same = c.in_ok-ready_to_note.ensures.same in
    let h : t < length q.threads.items = started_in g.A.Actor.state g.A.Actor.saved_state q m t same c.requires.here.1.started in
    let its = at_in g.A.Actor.state g.A.Actor.saved_state q m t s same h c.index_mut-thread.ensures.value in
    let is = c.requires.here.1.at (local_of g.A.Actor.state g.A.Actor.saved_state q.holders t s) its in
    let parts = open_parts g.A.Actor.saved_state s.tx (saves_of s.log) is.saves is.birth is.kept is.tx in
    let p = layout_of q.memory in
    let sound = whole_sound p q.limit q.holders q.threads.items t s q.whole h c.index_mut-thread.ensures.value in
    (c.in_ok-ready_to_note.ensures.capacity s (read_at q.threads.items t s h c.index_mut-thread.ensures.value)).0

pub write-requires-clause-capacity : goal.write-requires-clause-capacity
write-requires-clause-capacity g c =
    let r = c.args.self.now in
    let q = c.ready_to_note.new.self in
    let m = machine_in g.A.Actor.state g.A.Actor.saved_state r in
    let n = machine_in g.A.Actor.state g.A.Actor.saved_state q in
    let t = c.args.t in
    let s = c.index_mut-thread.result.now in
    let same = c.in_ok-ready_to_note.ensures.same in
    let h : t < length q.threads.items = started_in g.A.Actor.state g.A.Actor.saved_state q m t same c.requires.here.1.started in
    let its = at_in g.A.Actor.state g.A.Actor.saved_state q m t s same h c.index_mut-thread.ensures.value in
    let is = c.requires.here.1.at (local_of g.A.Actor.state g.A.Actor.saved_state q.holders t s) its in
    let parts = open_parts g.A.Actor.saved_state s.tx (saves_of s.log) is.saves is.birth is.kept is.tx in
    let p = layout_of q.memory in
    let sound = whole_sound p q.limit q.holders q.threads.items t s q.whole h c.index_mut-thread.ensures.value in
    (c.in_ok-ready_to_note.ensures.capacity s (read_at q.threads.items t s h c.index_mut-thread.ensures.value)).1

pub write-requires-clause-answers : goal.write-requires-clause-answers
write-requires-clause-answers g c =
    let r = c.args.self.now in
    let q = c.ready_to_note.new.self in
    let m = machine_in g.A.Actor.state g.A.Actor.saved_state r in
    let n = machine_in g.A.Actor.state g.A.Actor.saved_state q in
    let t = c.args.t in
    let s = c.index_mut-thread.result.now in
    let same = c.in_ok-ready_to_note.ensures.same in
    let h : t < length q.threads.items = started_in g.A.Actor.state g.A.Actor.saved_state q m t same c.requires.here.1.started in
    let its = at_in g.A.Actor.state g.A.Actor.saved_state q m t s same h c.index_mut-thread.ensures.value in
    let is = c.requires.here.1.at (local_of g.A.Actor.state g.A.Actor.saved_state q.holders t s) its in
    let parts = open_parts g.A.Actor.saved_state s.tx (saves_of s.log) is.saves is.birth is.kept is.tx in
    let p = layout_of q.memory in
    let sound = whole_sound p q.limit q.holders q.threads.items t s q.whole h c.index_mut-thread.ensures.value in
    answers_at g.A.Actor.thread (g.A.Actor.state s.actor) (Store c.args.addr c.args.size c.args.value c.requires.here.0) Nothing is.next refl

pub write-requires-clause-live : goal.write-requires-clause-live
write-requires-clause-live g c =
    let r = c.args.self.now in
    let q = c.ready_to_note.new.self in
    let m = machine_in g.A.Actor.state g.A.Actor.saved_state r in
    let n = machine_in g.A.Actor.state g.A.Actor.saved_state q in
    let t = c.args.t in
    let s = c.index_mut-thread.result.now in
    let same = c.in_ok-ready_to_note.ensures.same in
    let h : t < length q.threads.items = started_in g.A.Actor.state g.A.Actor.saved_state q m t same c.requires.here.1.started in
    let its = at_in g.A.Actor.state g.A.Actor.saved_state q m t s same h c.index_mut-thread.ensures.value in
    let is = c.requires.here.1.at (local_of g.A.Actor.state g.A.Actor.saved_state q.holders t s) its in
    let parts = open_parts g.A.Actor.saved_state s.tx (saves_of s.log) is.saves is.birth is.kept is.tx in
    let p = layout_of q.memory in
    let sound = whole_sound p q.limit q.holders q.threads.items t s q.whole h c.index_mut-thread.ensures.value in
    open_live g.A.Actor.saved_state s.tx is.birth is.kept parts.0

pub invariant_of-self-2 : goal.invariant_of-self-2
invariant_of-self-2 g c =
    let r = c.args.self.now in
    let q = c.ready_to_note.new.self in
    let m = machine_in g.A.Actor.state g.A.Actor.saved_state r in
    let n = machine_in g.A.Actor.state g.A.Actor.saved_state q in
    let t = c.args.t in
    let s = c.index_mut-thread.result.now in
    let same = c.in_ok-ready_to_note.ensures.same in
    let h : t < length q.threads.items = started_in g.A.Actor.state g.A.Actor.saved_state q m t same c.requires.here.1.started in
    let its = at_in g.A.Actor.state g.A.Actor.saved_state q m t s same h c.index_mut-thread.ensures.value in
    let is = c.requires.here.1.at (local_of g.A.Actor.state g.A.Actor.saved_state q.holders t s) its in
    let parts = open_parts g.A.Actor.saved_state s.tx (saves_of s.log) is.saves is.birth is.kept is.tx in
    let p = layout_of q.memory in
    let sound = whole_sound p q.limit q.holders q.threads.items t s q.whole h c.index_mut-thread.ensures.value in
    let mid = c.reserve.new.self in
    let new = c.take.new.self in
    let word = c.word_of-word.result in
    let we = c.word_of-word.ensures in
    let one = one_after t word Write q.holders mid new c.reserve.ensures.same c.take.ensures.taken in
    let access_r : can_access (layout_in c.args.self.now) c.word_of-word.result 8 ≡ true =
    ap (λ x. can_access (layout_in c.args.self.now) x 8) c.word_of-word.ensures
    ∙ access_word (layout_in c.args.self.now) c.args.addr c.args.size c.requires.access in
    let access : can_access p word 8 ≡ true = ap (λ z. can_access z word 8) c.in_ok-ready_to_note.ensures.layout ∙ access_r in
    record {
      whole = subst (λ z. IsWhole z q.limit new (set q.threads.items t c.write.new.self)) (sym c.store.ensures.layout)
          (whole_set p q.limit new q.threads.items t c.write.new.self
          (whole_hold p q.limit q.holders new q.threads.items t word _ q.whole h one (c.take.ensures.limit ∙ c.reserve.ensures.limit) (λ e. access))
          (c.write.ensures.sound p access sound));
    }

pub returns-clause-turned : goal.returns-clause-turned
returns-clause-turned g c = λ answer. inside_row g.A.Actor.state g.A.Actor.saved_state g.A.Actor.is_reached g.A.Actor.thread c.args.self.now answer c.args.t
    (Store c.args.addr c.args.size c.args.value c.requires.here.0) _ c.requires.here.1 (λ l at i.
    let r = c.args.self.now in
    let q = c.ready_to_note.new.self in
    let m = machine_in g.A.Actor.state g.A.Actor.saved_state r in
    let n = machine_in g.A.Actor.state g.A.Actor.saved_state q in
    let t = c.args.t in
    let s = c.index_mut-thread.result.now in
    let same = c.in_ok-ready_to_note.ensures.same in
    let h : t < length q.threads.items = started_in g.A.Actor.state g.A.Actor.saved_state q m t same c.requires.here.1.started in
    let its = at_in g.A.Actor.state g.A.Actor.saved_state q m t s same h c.index_mut-thread.ensures.value in
    let is = c.requires.here.1.at (local_of g.A.Actor.state g.A.Actor.saved_state q.holders t s) its in
    let parts = open_parts g.A.Actor.saved_state s.tx (saves_of s.log) is.saves is.birth is.kept is.tx in
    let p = layout_of q.memory in
    let sound = whole_sound p q.limit q.holders q.threads.items t s q.whole h c.index_mut-thread.ensures.value in
    let mid = c.reserve.new.self in
    let new = c.take.new.self in
    let word = c.word_of-word.result in
    let we = c.word_of-word.ensures in
    let one = one_after t word Write q.holders mid new c.reserve.ensures.same c.take.ensures.taken in
    let access_r : can_access (layout_in c.args.self.now) c.word_of-word.result 8 ≡ true =
    ap (λ x. can_access (layout_in c.args.self.now) x 8) c.word_of-word.ensures
    ∙ access_word (layout_in c.args.self.now) c.args.addr c.args.size c.requires.access in
    let x = word_of c.args.addr in
    let same_l : local_of g.A.Actor.state g.A.Actor.saved_state q.holders t s ≡ l = same_Some _ l (sym its ∙ at) in
    let mine = open_parts g.A.Actor.saved_state s.tx (saves_of s.log) i.saves i.birth i.kept (ap (λ (v : Local g.A.Actor.State). v.tx) same_l ∙ i.tx) in
    let old : c.in-Some.old ≡ m.memory x = same_Some c.in-Some.old (m.memory word) (sym c.in-Some.is ∙ c.load.ensures.word refl access_r) ∙ ap m.memory we in
    let f = λ (v : Local g.A.Actor.State). record v {
      state = g.A.Actor.thread.after v.state Nothing;
      held = update v.held x true;
      wrote =
          update v.wrote x true;
      tx = OpenTx i.birth i.kept (note i.saves x (m.memory x));
    } in
    let memory = words_of c.store.new.self in
    let mem : memory ≡ store m.memory c.args.addr c.args.size c.args.value =
    c.store.ensures.words
    ∙ (ap (λ b. cond b (store n.memory c.args.addr c.args.size c.args.value) n.memory)
    (ap (λ z. can_access z c.args.addr c.args.size) c.in_ok-ready_to_note.ensures.layout ∙ c.requires.access)
    ∙ ap (λ z. store z.memory c.args.addr c.args.size c.args.value) same) in
    memory_row t n m _ (f l) memory (store m.memory c.args.addr c.args.size c.args.value) same mem
    (stepped g.A.Actor.state g.A.Actor.saved_state (record n {
      memory =
          memory;
    }) q.holders new q.threads.items t s c.write.new.self l f refl refl refl h c.index_mut-thread.ensures.value (ap (λ z. z.threads t) same ∙ at)
    (others_same t word _ q.holders new one)
    (write_local g.A.Actor.state g.A.Actor.saved_state q.holders new t s c.write.new.self _ _ _ _ _ (c.write.ensures.local new t)
    (taken_held t word Write q.holders new one ∙ ap (λ y. update (held_in q.holders t) y true) we)
    (taken_write t word q.holders new one ∙ ap (λ y. update (wrote_in q.holders t) y true) we)
    (open_with g.A.Actor.saved_state s.tx i.birth i.kept mine.0 (note (saves_of s.log) word c.in-Some.old)
    ∙ (ap (λ z. OpenTx i.birth i.kept (note z word c.in-Some.old)) mine.1
    ∙ (ap (λ z. OpenTx i.birth i.kept (note i.saves z c.in-Some.old)) we ∙ ap (λ z. OpenTx i.birth i.kept (note i.saves x z)) old))))
    c.write.ensures.waits)
    ∙ store_done_in g.A.Actor.thread (layout_in c.args.self.now) answer c.args.t
    (machine_in g.A.Actor.state g.A.Actor.saved_state c.args.self.now) l i.birth i.kept i.saves c.args.addr c.args.size c.args.value c.requires.here.0
    c.requires.access c.requires.free)
