use Rattle.std.proofs.Common.{◌≡◌, ◌<◌, ◌++◌, ◌∷◌, [], length, ap, sym, ◌∙◌, refl}
use Rattle.std.proofs.lemmas.Option.{same_Some}
use Rattle.tx_events.specs.declared.Reply.TheVariants.{Nothing}
use Rattle.tx_events.specs.Memory.{word_bound}
use Rattle.tx_memory.specs.View.{layout_of}
use Rattle.tx_serial.specs.Machine.{Local, least}
use Rattle.tx_serial.specs.Turn.{closes}
use Rattle.tx_runtime.specs.Saves.{saves_of}
use Rattle.tx_runtime.specs.Threads.{local_of, held_in, closed_by}
use Rattle.tx_runtime.specs.View.{machine_in, layout_in}
use Rattle.tx_runtime.proofs.ThreadTables.{stepped, same_holds, whole_set, whole_sound}
use Rattle.tx_runtime.proofs.TransactionParts.{open_parts, part_some, part_birth}
use Rattle.tx_runtime.proofs.InsideRows.{leaving_answer, commits_one}
use Rattle.tx_runtime.proofs.AppliedRow.{started_in, at_in, answers_at}
use Rattle.tx_runtime.proofs.RowMachines.{order_gains_row}
use Rattle.tx_runtime.proofs.inside.Engine+A+A+Saved.leave_outermost.Goals as goal

pub leave-requires-clause-answers : goal.leave-requires-clause-answers
leave-requires-clause-answers g c =
    let r = c.args.self.now in
    let q = c.ready.new.self in
    let m = machine_in g.A.Actor.state g.A.Actor.saved_state r in
    let n = machine_in g.A.Actor.state g.A.Actor.saved_state q in
    let t = c.args.t in
    let s = c.index_mut-thread.result.now in
    let same = c.in_ok-ready.ensures.same in
    let h : t < length q.threads.items = started_in g.A.Actor.state g.A.Actor.saved_state q m t same c.requires.here.here.started in
    let its = at_in g.A.Actor.state g.A.Actor.saved_state q m t s same h c.index_mut-thread.ensures.value in
    let is = c.requires.here.here.at (local_of g.A.Actor.state g.A.Actor.saved_state q.holders t s) its in
    let parts = open_parts g.A.Actor.saved_state s.tx (saves_of s.log) is.saves is.birth is.kept is.tx in
    let p = layout_of q.memory in
    let sound = whole_sound p q.limit q.holders q.threads.items t s q.whole h c.index_mut-thread.ensures.value in
    answers_at g.A.Actor.thread (g.A.Actor.state s.actor) c.requires.here.event Nothing is.next (leaving_answer c.requires.here.event c.requires.here.leaves)

pub leave-requires-clause-tx : goal.leave-requires-clause-tx
leave-requires-clause-tx g c =
    let r = c.args.self.now in
    let q = c.ready.new.self in
    let m = machine_in g.A.Actor.state g.A.Actor.saved_state r in
    let n = machine_in g.A.Actor.state g.A.Actor.saved_state q in
    let t = c.args.t in
    let s = c.index_mut-thread.result.now in
    let same = c.in_ok-ready.ensures.same in
    let h : t < length q.threads.items = started_in g.A.Actor.state g.A.Actor.saved_state q m t same c.requires.here.here.started in
    let its = at_in g.A.Actor.state g.A.Actor.saved_state q m t s same h c.index_mut-thread.ensures.value in
    let is = c.requires.here.here.at (local_of g.A.Actor.state g.A.Actor.saved_state q.holders t s) its in
    let parts = open_parts g.A.Actor.saved_state s.tx (saves_of s.log) is.saves is.birth is.kept is.tx in
    let p = layout_of q.memory in
    let sound = whole_sound p q.limit q.holders q.threads.items t s q.whole h c.index_mut-thread.ensures.value in
    part_some g.A.Actor.saved_state s.tx is.birth is.kept parts.0

pub invariant_of-self-3 : goal.invariant_of-self-3
invariant_of-self-3 g c =
    let r = c.args.self.now in
    let q = c.ready.new.self in
    let m = machine_in g.A.Actor.state g.A.Actor.saved_state r in
    let n = machine_in g.A.Actor.state g.A.Actor.saved_state q in
    let t = c.args.t in
    let s = c.index_mut-thread.result.now in
    let same = c.in_ok-ready.ensures.same in
    let h : t < length q.threads.items = started_in g.A.Actor.state g.A.Actor.saved_state q m t same c.requires.here.here.started in
    let its = at_in g.A.Actor.state g.A.Actor.saved_state q m t s same h c.index_mut-thread.ensures.value in
    let is = c.requires.here.here.at (local_of g.A.Actor.state g.A.Actor.saved_state q.holders t s) its in
    let parts = open_parts g.A.Actor.saved_state s.tx (saves_of s.log) is.saves is.birth is.kept is.tx in
    let p = layout_of q.memory in
    let sound = whole_sound p q.limit q.holders q.threads.items t s q.whole h c.index_mut-thread.ensures.value in
    record { whole = whole_set p q.limit q.holders q.threads.items t c.leave.new.self q.whole (c.leave.ensures.sound p) }

pub returns-clause-done : goal.returns-clause-done
returns-clause-done g c = λ l b k ss at tx.
    let r = c.args.self.now in
    let q = c.ready.new.self in
    let m = machine_in g.A.Actor.state g.A.Actor.saved_state r in
    let n = machine_in g.A.Actor.state g.A.Actor.saved_state q in
    let t = c.args.t in
    let s = c.index_mut-thread.result.now in
    let same = c.in_ok-ready.ensures.same in
    let h : t < length q.threads.items = started_in g.A.Actor.state g.A.Actor.saved_state q m t same c.requires.here.here.started in
    let its = at_in g.A.Actor.state g.A.Actor.saved_state q m t s same h c.index_mut-thread.ensures.value in
    let is = c.requires.here.here.at (local_of g.A.Actor.state g.A.Actor.saved_state q.holders t s) its in
    let parts = open_parts g.A.Actor.saved_state s.tx (saves_of s.log) is.saves is.birth is.kept is.tx in
    let p = layout_of q.memory in
    let sound = whole_sound p q.limit q.holders q.threads.items t s q.whole h c.index_mut-thread.ensures.value in
    let one : local_of g.A.Actor.state g.A.Actor.saved_state q.holders t s ≡ l = same_Some _ l (sym its ∙ at) in
    let its_parts = open_parts g.A.Actor.saved_state s.tx (saves_of s.log) ss b k (ap (λ (v : Local g.A.Actor.State). v.tx) one ∙ tx) in
    let order = c.push_reserved.new.self.items in
    let bound = word_bound (layout_in r) in
    let f = λ (v : Local g.A.Actor.State). record v { state = g.A.Actor.thread.after v.state Nothing; tx = closes b (least v.held bound) } in
    order_gains_row t n m _ (f l) order same
    (c.push_reserved.ensures.items ∙ ap (λ xs. xs ++ t ∷ []) c.reserve.ensures.items)
    (stepped g.A.Actor.state g.A.Actor.saved_state (record n {
      order =
          order;
    }) q.holders q.holders q.threads.items t s c.leave.new.self l f refl refl refl h c.index_mut-thread.ensures.value
    (ap (λ z. z.threads t) same ∙ at) (same_holds t q.holders)
    (c.leave.ensures.local q.holders t ∙ ap (λ z. record (local_of g.A.Actor.state g.A.Actor.saved_state q.holders t s) {
      state = g.A.Actor.thread.after
          (g.A.Actor.state s.actor) Nothing;
      tx = z;
    })
    (ap (closed_by c.holds_words-holds.result) (part_birth g.A.Actor.saved_state s.tx b k its_parts.0)
    ∙ (c.holds_words-holds.ensures b ∙ ap (λ z. closes b (least (held_in q.holders t) (word_bound z))) c.in_ok-ready.ensures.layout)))
    c.leave.ensures.waits)
    ∙ commits_one (layout_in r) t m l (g.A.Actor.thread.after l.state Nothing) b k ss (c.requires.one l b k ss at tx)
