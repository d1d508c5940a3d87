use Rattle.std.proofs.Common.{pos, ◌≡◌, ◌<◌, ◌++◌, ◌∷◌, [], length, ap, sym, ◌∙◌, arith, subst, get_or, w32, w64, of_z, to_z}
use Rattle.std.proofs.lemmas.Int.{to_z-of_z}
use Rattle.std.proofs.lemmas.Option.{same_Some}
use Rattle.tx_events.specs.declared.Event.TheVariants.{Spawn}
use Rattle.tx_events.specs.declared.Reply.TheVariants.{Id}
use Rattle.tx_memory.specs.View.{layout_of}
use Rattle.tx_serial.specs.Machine.{Local}
use Rattle.tx_runtime.specs.Threads.{local_of, threads_of, waits_by}
use Rattle.tx_runtime.specs.View.{machine_in, layout_in}
use Rattle.tx_runtime.proofs.ThreadTables.{whole_push, ready_push, threads_push, waits_push, length_pushed, not_less, less, push_at}
use Rattle.tx_events.specs.Thread.{IsInt}
use Rattle.tx_runtime.proofs.OutsideRows.{spawn_full, spawn_done}
use Rattle.tx_runtime.proofs.AppliedRow.{outside_row, if_ok, started_in, at_in, answers_at}
use Rattle.tx_runtime.proofs.RowMachines.{spawn_row}
use Rattle.tx_runtime.proofs.outside.Engine+A+A+Saved.spawn.Goals as goal

pub returns-then-number-self-clause-turned : goal.returns-then-number-self-clause-turned
returns-then-number-self-clause-turned g c = if_ok c.halt.result
    (λ kind done answer. outside_row g.A.Actor.state g.A.Actor.saved_state g.A.Actor.is_reached g.A.Actor.thread c.args.self.now answer c.args.t
    (Spawn c.args.func c.args.arg) _ c.requires.here (λ l at is.
    let self = c.args.self.now in
    done ∙ spawn_full g.A.Actor.thread (layout_in c.args.self.now) c.args.t
    (machine_in g.A.Actor.state g.A.Actor.saved_state c.args.self.now) l c.args.func c.args.arg
    (not_less (length self.threads.items) (layout_in self).limit
    (omega (arith, c.if-number-self.true, c.len-number.ensures, self.whole.fits))))) c.halt.ensures.done

pub start-requires : goal.start-requires
start-requires g c =
    let r = c.args.self.now in
    let q = c.ready.new.self in
    let m = machine_in g.A.Actor.state g.A.Actor.saved_state r in
    let same = c.in_ok-ready.ensures.same in
    let h : c.args.t < length q.threads.items = started_in g.A.Actor.state g.A.Actor.saved_state q m c.args.t same c.requires.here.started in
    let items : c.reserve-2.new.self.items ≡ q.threads.items = c.reserve-2.ensures.items in
    let s = c.index-thread.result.now in
    let here : s ≡ get_or q.threads.items c.args.t s = c.index-thread.ensures ∙ ap (λ xs. get_or xs c.args.t s) items in
    let its = at_in g.A.Actor.state g.A.Actor.saved_state q m c.args.t s same h here in
    let is = c.requires.here.at (local_of g.A.Actor.state g.A.Actor.saved_state q.holders c.args.t s) its in
    let started : length q.threads.items ≡ length r.threads.items = ap (λ z. z.started) same in
    is.next ∙ ap (Spawn c.args.func) (sym (to_z-of_z w64 c.args.arg c.ranges.arg))

pub invariant_of-self-2 : goal.invariant_of-self-2
invariant_of-self-2 g c =
    let r = c.args.self.now in
    let q = c.ready.new.self in
    let m = machine_in g.A.Actor.state g.A.Actor.saved_state r in
    let same = c.in_ok-ready.ensures.same in
    let h : c.args.t < length q.threads.items = started_in g.A.Actor.state g.A.Actor.saved_state q m c.args.t same c.requires.here.started in
    let items : c.reserve-2.new.self.items ≡ q.threads.items = c.reserve-2.ensures.items in
    let s = c.index-thread.result.now in
    let here : s ≡ get_or q.threads.items c.args.t s = c.index-thread.ensures ∙ ap (λ xs. get_or xs c.args.t s) items in
    let its = at_in g.A.Actor.state g.A.Actor.saved_state q m c.args.t s same h here in
    let is = c.requires.here.at (local_of g.A.Actor.state g.A.Actor.saved_state q.holders c.args.t s) its in
    let started : length q.threads.items ≡ length r.threads.items = ap (λ z. z.started) same in
    let pushed : c.push_reserved-2.new.self.items ≡ q.threads.items ++ c.new.result ∷ [] = c.push_reserved-2.ensures.items
    ∙ ap (λ xs. xs ++ c.new.result ∷ []) items in
    let p = layout_of q.memory in
    let limit = ap (λ z. z.limit) c.in_ok-ready.ensures.layout in
    record {
      whole = whole_push p q.limit q.holders q.threads.items c.push_reserved-2.new.self.items c.new.result pushed q.whole
          (omega (arith, c.if-number-self.false, c.len-number.ensures, started, q.whole.fits, r.whole.fits, limit)) (c.new.ensures.sound p);
    }

pub step-requires-clause-capacity : goal.step-requires-clause-capacity
step-requires-clause-capacity g c =
    let r = c.args.self.now in
    let q = c.ready.new.self in
    let m = machine_in g.A.Actor.state g.A.Actor.saved_state r in
    let same = c.in_ok-ready.ensures.same in
    let h : c.args.t < length q.threads.items = started_in g.A.Actor.state g.A.Actor.saved_state q m c.args.t same c.requires.here.started in
    let items : c.reserve-2.new.self.items ≡ q.threads.items = c.reserve-2.ensures.items in
    let s = c.index-thread.result.now in
    let here : s ≡ get_or q.threads.items c.args.t s = c.index-thread.ensures ∙ ap (λ xs. get_or xs c.args.t s) items in
    let its = at_in g.A.Actor.state g.A.Actor.saved_state q m c.args.t s same h here in
    let is = c.requires.here.at (local_of g.A.Actor.state g.A.Actor.saved_state q.holders c.args.t s) its in
    let started : length q.threads.items ≡ length r.threads.items = ap (λ z. z.started) same in
    let pushed : c.push_reserved-2.new.self.items ≡ q.threads.items ++ c.new.result ∷ [] = c.push_reserved-2.ensures.items
    ∙ ap (λ xs. xs ++ c.new.result ∷ []) items in
    ready_push g.A.Actor.has_capacity q.threads.items c.push_reserved-2.new.self.items c.new.result c.args.t pushed h c.in_ok-ready.ensures.capacity

pub step-requires-clause-answers : goal.step-requires-clause-answers
step-requires-clause-answers g c = λ l at.
    let r = c.args.self.now in
    let q = c.ready.new.self in
    let m = machine_in g.A.Actor.state g.A.Actor.saved_state r in
    let same = c.in_ok-ready.ensures.same in
    let h : c.args.t < length q.threads.items = started_in g.A.Actor.state g.A.Actor.saved_state q m c.args.t same c.requires.here.started in
    let items : c.reserve-2.new.self.items ≡ q.threads.items = c.reserve-2.ensures.items in
    let s = c.index-thread.result.now in
    let here : s ≡ get_or q.threads.items c.args.t s = c.index-thread.ensures ∙ ap (λ xs. get_or xs c.args.t s) items in
    let its = at_in g.A.Actor.state g.A.Actor.saved_state q m c.args.t s same h here in
    let is = c.requires.here.at (local_of g.A.Actor.state g.A.Actor.saved_state q.holders c.args.t s) its in
    let started : length q.threads.items ≡ length r.threads.items = ap (λ z. z.started) same in
    let pushed : c.push_reserved-2.new.self.items ≡ q.threads.items ++ c.new.result ∷ [] = c.push_reserved-2.ensures.items
    ∙ ap (λ xs. xs ++ c.new.result ∷ []) items in
    let one : local_of g.A.Actor.state g.A.Actor.saved_state q.holders c.args.t s ≡ l =
    same_Some _ l (sym its ∙ (ap (λ z. z.threads c.args.t) (sym same) ∙
    (sym (push_at g.A.Actor.state g.A.Actor.saved_state q.holders q.threads.items c.push_reserved-2.new.self.items c.new.result c.args.t pushed h)
    ∙ at))) in
    let next : g.A.Actor.thread.next l.state ≡ Spawn c.args.func c.args.arg = ap (λ (z : Local g.A.Actor.State). g.A.Actor.thread.next z.state) (sym one)
    ∙ is.next in
    let id : to_z w32 (of_z w32 c.from.result) ≡ pos c.len-number.result = to_z-of_z w32 c.from.result (record { sfits = c.from.type_inv }) ∙ c.from.ensures in
    answers_at g.A.Actor.thread l.state (Spawn c.args.func c.args.arg) (Id (to_z w32 (of_z w32 c.from.result))) next
    (subst IsInt (sym id) (omega (arith, c.len-number.ensures, r.whole.started, r.whole.few)))

pub returns-clause-turned : goal.returns-clause-turned
returns-clause-turned g c = λ answer. outside_row g.A.Actor.state g.A.Actor.saved_state g.A.Actor.is_reached g.A.Actor.thread c.args.self.now answer c.args.t
    (Spawn c.args.func c.args.arg) _ c.requires.here (λ l at isl.
    let r = c.args.self.now in
    let q = c.ready.new.self in
    let m = machine_in g.A.Actor.state g.A.Actor.saved_state r in
    let same = c.in_ok-ready.ensures.same in
    let h : c.args.t < length q.threads.items = started_in g.A.Actor.state g.A.Actor.saved_state q m c.args.t same c.requires.here.started in
    let items : c.reserve-2.new.self.items ≡ q.threads.items = c.reserve-2.ensures.items in
    let s = c.index-thread.result.now in
    let here : s ≡ get_or q.threads.items c.args.t s = c.index-thread.ensures ∙ ap (λ xs. get_or xs c.args.t s) items in
    let its = at_in g.A.Actor.state g.A.Actor.saved_state q m c.args.t s same h here in
    let is = c.requires.here.at (local_of g.A.Actor.state g.A.Actor.saved_state q.holders c.args.t s) its in
    let started : length q.threads.items ≡ length r.threads.items = ap (λ z. z.started) same in
    let pushed : c.push_reserved-2.new.self.items ≡ q.threads.items ++ c.new.result ∷ [] = c.push_reserved-2.ensures.items
    ∙ ap (λ xs. xs ++ c.new.result ∷ []) items in
    let n = machine_in g.A.Actor.state g.A.Actor.saved_state q in
    let number = c.len-number.result in
    let counted : number ≡ length r.threads.items = omega (arith, c.len-number.ensures) in
    let one : local_of g.A.Actor.state g.A.Actor.saved_state q.holders c.args.t s ≡ l = same_Some _ l (sym its ∙ at) in
    let i = to_z w32 (of_z w32 c.from.result) in
    let child = g.A.Actor.state c.in_ok-child.child in
    spawn_row c.args.t n m _ (record l { state = g.A.Actor.thread.after l.state (Id i) }) child c.push_reserved.new.self.items
    (threads_of g.A.Actor.state g.A.Actor.saved_state q.holders c.push_reserved-2.new.self.items) (waits_by c.push_reserved-2.new.self.items)
    (length c.push_reserved-2.new.self.items) same
    (c.push_reserved.ensures.items ∙ ap (λ xs. xs ++ c.args.t ∷ []) c.reserve.ensures.items)
    (threads_push g.A.Actor.state g.A.Actor.saved_state q.holders q.threads.items c.push_reserved-2.new.self.items c.new.result child pushed
    (λ x. q.whole.free (length q.threads.items) x (omega arith)) c.new.ensures.state c.new.ensures.runs c.new.ensures.tx)
    (waits_push q.threads.items c.push_reserved-2.new.self.items c.new.result pushed c.new.ensures.waits)
    (length_pushed q.threads.items c.push_reserved-2.new.self.items c.new.result pushed)
    (c.step.ensures.done l
    (push_at g.A.Actor.state g.A.Actor.saved_state q.holders q.threads.items c.push_reserved-2.new.self.items c.new.result c.args.t pushed h
    ∙ (ap (λ z. z.threads c.args.t) same ∙ at)))
    ∙ spawn_done g.A.Actor.thread (layout_in c.args.self.now) c.args.t
    (machine_in g.A.Actor.state g.A.Actor.saved_state c.args.self.now) l c.args.func number c.args.arg i child
    (less (length r.threads.items) (layout_in r).limit (omega (arith, c.if-number-self.false, c.len-number.ensures, r.whole.fits)))
    (to_z-of_z w32 c.from.result (record { sfits = c.from.type_inv }) ∙ (c.from.ensures ∙ ap pos counted))
    (c.in_ok-child.ensures ∙ (ap (λ z. g.A.Actor.thread.child z number c.args.func (to_z w64 (of_z w64 c.args.arg)))
    (ap (λ (z : Local g.A.Actor.State). z.state) one)
    ∙ (ap (λ z. g.A.Actor.thread.child l.state z c.args.func (to_z w64 (of_z w64 c.args.arg))) counted
    ∙ ap (g.A.Actor.thread.child l.state (length r.threads.items) c.args.func) (to_z-of_z w64 c.args.arg c.ranges.arg)))))
