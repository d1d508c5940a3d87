use Rattle.std.proofs.Common.{◌≡◌, ◌<◌, length, ap, sym, ◌∙◌, refl, arith}
use Rattle.std.proofs.lemmas.Option.{same_Some}
use Rattle.tx_events.specs.declared.Reply.TheVariants.{Nothing}
use Rattle.tx_memory.specs.View.{layout_of}
use Rattle.tx_serial.specs.Machine.{Local, OpenTx}
use Rattle.tx_runtime.specs.Saves.{saves_of, handed}
use Rattle.tx_runtime.specs.Threads.{local_of}
use Rattle.tx_runtime.specs.View.{machine_in, layout_in}
use Rattle.tx_runtime.proofs.ThreadTables.{stepped, same_holds, whole_set, whole_sound}
use Rattle.tx_runtime.proofs.TransactionParts.{open_parts, open_with}
use Rattle.tx_runtime.proofs.InsideRows.{leaving_answer, commits_more}
use Rattle.tx_runtime.proofs.LogSavepoints.{saves_count}
use Rattle.tx_runtime.proofs.AppliedRow.{started_in, at_in, answers_at}
use Rattle.tx_runtime.proofs.RowMachines.{alone_row}
use Rattle.tx_runtime.proofs.inside.Engine+A+A+Saved.leave_inner.Goals as goal

pub leave_inner-requires-clause-answers : goal.leave_inner-requires-clause-answers
leave_inner-requires-clause-answers g c =
    let r = c.args.self.now in
    let q = c.ready.new.self in
    let m = machine_in g.A.Actor.state g.A.Actor.saved_state r in
    let n = machine_in g.A.Actor.state g.A.Actor.saved_state q in
    let t = c.args.t in
    let s = c.index_mut-thread.result.now in
    let same = c.in_ok-ready.ensures.same in
    let h : t < length q.threads.items = started_in g.A.Actor.state g.A.Actor.saved_state q m t same c.requires.here.here.started in
    let its = at_in g.A.Actor.state g.A.Actor.saved_state q m t s same h c.index_mut-thread.ensures.value in
    let is = c.requires.here.here.at (local_of g.A.Actor.state g.A.Actor.saved_state q.holders t s) its in
    let parts = open_parts g.A.Actor.saved_state s.tx (saves_of s.log) is.saves is.birth is.kept is.tx in
    let p = layout_of q.memory in
    let sound = whole_sound p q.limit q.holders q.threads.items t s q.whole h c.index_mut-thread.ensures.value in
    answers_at g.A.Actor.thread (g.A.Actor.state s.actor) c.requires.here.event Nothing is.next (leaving_answer c.requires.here.event c.requires.here.leaves)

pub leave_inner-requires-clause-marks : goal.leave_inner-requires-clause-marks
leave_inner-requires-clause-marks g c =
    let r = c.args.self.now in
    let q = c.ready.new.self in
    let m = machine_in g.A.Actor.state g.A.Actor.saved_state r in
    let n = machine_in g.A.Actor.state g.A.Actor.saved_state q in
    let t = c.args.t in
    let s = c.index_mut-thread.result.now in
    let same = c.in_ok-ready.ensures.same in
    let h : t < length q.threads.items = started_in g.A.Actor.state g.A.Actor.saved_state q m t same c.requires.here.here.started in
    let its = at_in g.A.Actor.state g.A.Actor.saved_state q m t s same h c.index_mut-thread.ensures.value in
    let is = c.requires.here.here.at (local_of g.A.Actor.state g.A.Actor.saved_state q.holders t s) its in
    let parts = open_parts g.A.Actor.saved_state s.tx (saves_of s.log) is.saves is.birth is.kept is.tx in
    let p = layout_of q.memory in
    let sound = whole_sound p q.limit q.holders q.threads.items t s q.whole h c.index_mut-thread.ensures.value in
    let more : 1 < length is.saves = c.requires.more (local_of g.A.Actor.state g.A.Actor.saved_state q.holders t s) is.birth is.kept is.saves its is.tx in
    let long : length (saves_of s.log) ≡ length is.saves = ap length parts.1 in
    omega (arith, more, long, saves_count s.log)

pub invariant_of-self : goal.invariant_of-self
invariant_of-self g c =
    let r = c.args.self.now in
    let q = c.ready.new.self in
    let m = machine_in g.A.Actor.state g.A.Actor.saved_state r in
    let n = machine_in g.A.Actor.state g.A.Actor.saved_state q in
    let t = c.args.t in
    let s = c.index_mut-thread.result.now in
    let same = c.in_ok-ready.ensures.same in
    let h : t < length q.threads.items = started_in g.A.Actor.state g.A.Actor.saved_state q m t same c.requires.here.here.started in
    let its = at_in g.A.Actor.state g.A.Actor.saved_state q m t s same h c.index_mut-thread.ensures.value in
    let is = c.requires.here.here.at (local_of g.A.Actor.state g.A.Actor.saved_state q.holders t s) its in
    let parts = open_parts g.A.Actor.saved_state s.tx (saves_of s.log) is.saves is.birth is.kept is.tx in
    let p = layout_of q.memory in
    let sound = whole_sound p q.limit q.holders q.threads.items t s q.whole h c.index_mut-thread.ensures.value in
    record { whole = whole_set p q.limit q.holders q.threads.items t c.leave_inner.new.self q.whole (c.leave_inner.ensures.sound p sound) }

pub returns-clause-done : goal.returns-clause-done
returns-clause-done g c = λ l b k ss at tx.
    let r = c.args.self.now in
    let q = c.ready.new.self in
    let m = machine_in g.A.Actor.state g.A.Actor.saved_state r in
    let n = machine_in g.A.Actor.state g.A.Actor.saved_state q in
    let t = c.args.t in
    let s = c.index_mut-thread.result.now in
    let same = c.in_ok-ready.ensures.same in
    let h : t < length q.threads.items = started_in g.A.Actor.state g.A.Actor.saved_state q m t same c.requires.here.here.started in
    let its = at_in g.A.Actor.state g.A.Actor.saved_state q m t s same h c.index_mut-thread.ensures.value in
    let is = c.requires.here.here.at (local_of g.A.Actor.state g.A.Actor.saved_state q.holders t s) its in
    let parts = open_parts g.A.Actor.saved_state s.tx (saves_of s.log) is.saves is.birth is.kept is.tx in
    let p = layout_of q.memory in
    let sound = whole_sound p q.limit q.holders q.threads.items t s q.whole h c.index_mut-thread.ensures.value in
    let one : local_of g.A.Actor.state g.A.Actor.saved_state q.holders t s ≡ l = same_Some _ l (sym its ∙ at) in
    let its_parts = open_parts g.A.Actor.saved_state s.tx (saves_of s.log) ss b k (ap (λ (v : Local g.A.Actor.State). v.tx) one ∙ tx) in
    let f = λ (v : Local g.A.Actor.State). record v { state = g.A.Actor.thread.after v.state Nothing; tx = OpenTx b k (handed ss) } in
    alone_row t n m _ (f l) same
    (stepped g.A.Actor.state g.A.Actor.saved_state n q.holders q.holders q.threads.items t s c.leave_inner.new.self l f refl refl refl h
    c.index_mut-thread.ensures.value (ap (λ z. z.threads t) same ∙ at) (same_holds t q.holders)
    (c.leave_inner.ensures.local q.holders t ∙ ap (λ z.
    record (local_of g.A.Actor.state g.A.Actor.saved_state q.holders t s) { state = g.A.Actor.thread.after (g.A.Actor.state s.actor) Nothing; tx = z })
    (open_with g.A.Actor.saved_state s.tx b k its_parts.0 (handed (saves_of s.log)) ∙ ap (λ z. OpenTx b k (handed z)) its_parts.1))
    c.leave_inner.ensures.waits)
    ∙ commits_more (layout_in r) t m l (g.A.Actor.thread.after l.state Nothing) b k ss (c.requires.more l b k ss at tx)
