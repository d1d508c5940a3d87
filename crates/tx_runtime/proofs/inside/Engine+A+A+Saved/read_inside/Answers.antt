use Rattle.std.proofs.Common.{◌≡◌, ◌<◌, ◌*◌, ◌^◌, length, ap, sym, ◌∙◌, refl, None, true, false, subst}
use Rattle.own_table.specs.declared.hold.Mode.TheVariants.{Read}
use Rattle.own_table.specs.Records.{blocks}
use Rattle.tx_events.specs.declared.Event.TheVariants.{Load}
use Rattle.tx_events.specs.declared.Reply.TheVariants.{Loaded}
use Rattle.tx_events.specs.Memory.{update, can_access, word_of}
use Rattle.tx_events.proofs.WordLemmas.{read_fits}
use Rattle.tx_memory.specs.View.{layout_of, words_of}
use Rattle.tx_serial.specs.Machine.{Local, blocker, birth_of}
use Rattle.tx_runtime.specs.Saves.{saves_of}
use Rattle.tx_runtime.specs.Threads.{local_of, held_in}
use Rattle.tx_runtime.specs.View.{machine_in, layout_in}
use Rattle.tx_runtime.proofs.ConflictingThreads.{unblocked}
use Rattle.tx_runtime.proofs.ThreadTables.{read_at, stepped, same_threads, whole_set, whole_sound, on_err}
use Rattle.tx_runtime.proofs.HoldLemmas.{access_word, one_after, others_same, taken_held, taken_read, whole_hold, step_local}
use Rattle.tx_runtime.proofs.TransactionParts.{open_parts}
use Rattle.tx_runtime.proofs.InsideRows.{load_done_in}
use Rattle.tx_runtime.proofs.AppliedRow.{inside_row, started_in, at_in, answers_at}
use Rattle.tx_runtime.proofs.RowMachines.{alone_row}
use Rattle.tx_runtime.proofs.inside.Engine+A+A+Saved.read_inside.Goals as goal

pub returns-in_err-reserve-clause-same : goal.returns-in_err-reserve-clause-same
returns-in_err-reserve-clause-same g c =
    let q = c.ready.new.self in
    on_err c.from_residual-in_err-reserve.result (ap (λ f. record (machine_in g.A.Actor.state g.A.Actor.saved_state q) { threads = f })
    (same_threads g.A.Actor.state g.A.Actor.saved_state q.holders c.reserve.new.self q.threads.items c.reserve.ensures.same) ∙ c.in_ok-ready.ensures.same)

pub take-requires-clause-unblocked : goal.take-requires-clause-unblocked
take-requires-clause-unblocked g c = λ u d.
    let q = c.ready.new.self in
    let n = machine_in g.A.Actor.state g.A.Actor.saved_state q in
    let t = c.args.t in
    let word = c.word_of-word.result in
    let same = c.in_ok-ready.ensures.same in
    let free : blocker t false word n ≡ None = ap (λ z. blocker t false word z) same
    ∙ (ap (λ x. blocker t false x (machine_in g.A.Actor.state g.A.Actor.saved_state c.args.self.now)) c.word_of-word.ensures ∙ c.requires.free) in
    ap (λ o. blocks o false) (c.reserve.ensures.same u word)
    ∙ unblocked g.A.Actor.state g.A.Actor.saved_state q.holders q.threads.items t n.started word false
    (λ v. birth_of (n.threads v)) refl q.whole.free free u d

pub go_on-requires-clause-capacity : goal.go_on-requires-clause-capacity
go_on-requires-clause-capacity g c =
    let r = c.args.self.now in
    let q = c.ready.new.self in
    let m = machine_in g.A.Actor.state g.A.Actor.saved_state r in
    let n = machine_in g.A.Actor.state g.A.Actor.saved_state q in
    let t = c.args.t in
    let s = c.index_mut-thread.result.now in
    let same = c.in_ok-ready.ensures.same in
    let h : t < length q.threads.items = started_in g.A.Actor.state g.A.Actor.saved_state q m t same c.requires.here.4.started in
    let its = at_in g.A.Actor.state g.A.Actor.saved_state q m t s same h c.index_mut-thread.ensures.value in
    let is = c.requires.here.4.at (local_of g.A.Actor.state g.A.Actor.saved_state q.holders t s) its in
    let parts = open_parts g.A.Actor.saved_state s.tx (saves_of s.log) is.saves is.birth is.kept is.tx in
    let p = layout_of q.memory in
    let sound = whole_sound p q.limit q.holders q.threads.items t s q.whole h c.index_mut-thread.ensures.value in
    c.in_ok-ready.ensures.capacity s (read_at q.threads.items t s h c.index_mut-thread.ensures.value)

pub go_on-requires-clause-answers : goal.go_on-requires-clause-answers
go_on-requires-clause-answers g c =
    let r = c.args.self.now in
    let q = c.ready.new.self in
    let m = machine_in g.A.Actor.state g.A.Actor.saved_state r in
    let n = machine_in g.A.Actor.state g.A.Actor.saved_state q in
    let t = c.args.t in
    let s = c.index_mut-thread.result.now in
    let same = c.in_ok-ready.ensures.same in
    let h : t < length q.threads.items = started_in g.A.Actor.state g.A.Actor.saved_state q m t same c.requires.here.4.started in
    let its = at_in g.A.Actor.state g.A.Actor.saved_state q m t s same h c.index_mut-thread.ensures.value in
    let is = c.requires.here.4.at (local_of g.A.Actor.state g.A.Actor.saved_state q.holders t s) its in
    let parts = open_parts g.A.Actor.saved_state s.tx (saves_of s.log) is.saves is.birth is.kept is.tx in
    let p = layout_of q.memory in
    let sound = whole_sound p q.limit q.holders q.threads.items t s q.whole h c.index_mut-thread.ensures.value in
    answers_at g.A.Actor.thread (g.A.Actor.state s.actor) (Load c.args.addr c.requires.here.0 c.requires.here.1) (Loaded c.args.value) is.next
    (subst (λ v. v < 2 ^ (8 * c.requires.here.0)) (sym c.requires.here.2) (read_fits c.args.addr c.requires.here.0 (words_of r.memory (word_of c.args.addr))))

pub invariant_of-self-2 : goal.invariant_of-self-2
invariant_of-self-2 g c =
    let r = c.args.self.now in
    let q = c.ready.new.self in
    let m = machine_in g.A.Actor.state g.A.Actor.saved_state r in
    let n = machine_in g.A.Actor.state g.A.Actor.saved_state q in
    let t = c.args.t in
    let s = c.index_mut-thread.result.now in
    let same = c.in_ok-ready.ensures.same in
    let h : t < length q.threads.items = started_in g.A.Actor.state g.A.Actor.saved_state q m t same c.requires.here.4.started in
    let its = at_in g.A.Actor.state g.A.Actor.saved_state q m t s same h c.index_mut-thread.ensures.value in
    let is = c.requires.here.4.at (local_of g.A.Actor.state g.A.Actor.saved_state q.holders t s) its in
    let parts = open_parts g.A.Actor.saved_state s.tx (saves_of s.log) is.saves is.birth is.kept is.tx in
    let p = layout_of q.memory in
    let sound = whole_sound p q.limit q.holders q.threads.items t s q.whole h c.index_mut-thread.ensures.value in
    let mid = c.reserve.new.self in
    let new = c.take.new.self in
    let word = c.word_of-word.result in
    let we = c.word_of-word.ensures in
    let one = one_after t word Read q.holders mid new c.reserve.ensures.same c.take.ensures.taken in
    let access : can_access p word 8 ≡ true = ap (λ z. can_access z word 8) c.in_ok-ready.ensures.layout
    ∙ (ap (λ x. can_access (layout_in r) x 8) we ∙ access_word (layout_in r) c.args.addr c.requires.here.0 c.requires.here.3) in
    record {
      whole = whole_set p q.limit new q.threads.items t c.go_on.new.self
          (whole_hold p q.limit q.holders new q.threads.items t word _ q.whole h one (c.take.ensures.limit ∙ c.reserve.ensures.limit) (λ e. access))
          (c.go_on.ensures.sound p ∙ sound);
    }

pub returns-clause-turned : goal.returns-clause-turned
returns-clause-turned g c = λ answer. inside_row g.A.Actor.state g.A.Actor.saved_state g.A.Actor.is_reached g.A.Actor.thread c.args.self.now answer c.args.t
    (Load c.args.addr c.requires.here.0 c.requires.here.1) _ c.requires.here.4 (λ l at i.
    let r = c.args.self.now in
    let q = c.ready.new.self in
    let m = machine_in g.A.Actor.state g.A.Actor.saved_state r in
    let n = machine_in g.A.Actor.state g.A.Actor.saved_state q in
    let t = c.args.t in
    let s = c.index_mut-thread.result.now in
    let same = c.in_ok-ready.ensures.same in
    let h : t < length q.threads.items = started_in g.A.Actor.state g.A.Actor.saved_state q m t same c.requires.here.4.started in
    let its = at_in g.A.Actor.state g.A.Actor.saved_state q m t s same h c.index_mut-thread.ensures.value in
    let is = c.requires.here.4.at (local_of g.A.Actor.state g.A.Actor.saved_state q.holders t s) its in
    let parts = open_parts g.A.Actor.saved_state s.tx (saves_of s.log) is.saves is.birth is.kept is.tx in
    let p = layout_of q.memory in
    let sound = whole_sound p q.limit q.holders q.threads.items t s q.whole h c.index_mut-thread.ensures.value in
    let mid = c.reserve.new.self in
    let new = c.take.new.self in
    let word = c.word_of-word.result in
    let we = c.word_of-word.ensures in
    let one = one_after t word Read q.holders mid new c.reserve.ensures.same c.take.ensures.taken in
    let f = λ (v : Local g.A.Actor.State). record v {
      state = g.A.Actor.thread.after v.state (Loaded c.args.value);
      held = update v.held
          (word_of c.args.addr) true;
    } in
    alone_row t n m _ (f l) same
    (stepped g.A.Actor.state g.A.Actor.saved_state n q.holders new q.threads.items t s c.go_on.new.self l f refl refl refl h c.index_mut-thread.ensures.value
    (ap (λ z. z.threads t) same ∙ at) (others_same t word _ q.holders new one)
    (step_local g.A.Actor.state g.A.Actor.saved_state q.holders new t s c.go_on.new.self _ _ _ (c.go_on.ensures.local new t)
    (taken_held t word Read q.holders new one ∙ ap (λ x. update (held_in q.holders t) x true) we) (taken_read t word q.holders new one))
    c.go_on.ensures.waits)
    ∙ load_done_in g.A.Actor.thread (layout_in c.args.self.now) answer c.args.t
    (machine_in g.A.Actor.state g.A.Actor.saved_state c.args.self.now) l i.birth i.kept i.saves c.args.addr c.requires.here.0 c.args.value c.requires.here.1
    c.requires.here.3 c.requires.free c.requires.here.2 i.tx)
