use Rattle.std.proofs.Common.{◌≡◌, ◌<◌, length, ap, sym, ◌∙◌, refl, Some}
use Rattle.std.proofs.lemmas.Option.{same_Some}
use Rattle.tx_events.specs.declared.TurnKind.TheVariants.{Rolled}
use Rattle.tx_events.specs.Memory.{word_bound}
use Rattle.tx_memory.specs.View.{layout_of}
use Rattle.tx_serial.specs.Machine.{Local, least}
use Rattle.tx_serial.specs.Turn.{again}
use Rattle.tx_runtime.specs.Saves.{saves_of}
use Rattle.tx_runtime.specs.Threads.{local_of, threads_of}
use Rattle.tx_runtime.specs.View.{machine_in, layout_in}
use Rattle.tx_runtime.proofs.ThreadTables.{read_at, thread_at, stepped, same_holds, whole_set, whole_sound, kinded, held_at, at_slot}
use Rattle.tx_runtime.proofs.HoldLemmas.{none_held, again_hold}
use Rattle.tx_runtime.proofs.TransactionParts.{open_parts, open_live, part_some}
use Rattle.tx_runtime.proofs.ClosingRows.{rolls_none}
use Rattle.tx_runtime.proofs.SlotLemmas.{live_marks}
use Rattle.tx_runtime.proofs.closing.Engine+A+A+Saved.roll_bare.Goals as goal

pub copy_kept-requires-clause-tx : goal.copy_kept-requires-clause-tx
copy_kept-requires-clause-tx g c = λ s at.
    let self = c.args.self.now in
    let its : threads_of g.A.Actor.state g.A.Actor.saved_state self.holders self.threads.items c.args.t
    ≡ Some (local_of g.A.Actor.state g.A.Actor.saved_state self.holders c.args.t s) =
    at_slot g.A.Actor.state g.A.Actor.saved_state self.holders self.threads.items c.args.t s at in
    let is = c.requires.open (local_of g.A.Actor.state g.A.Actor.saved_state self.holders c.args.t s) its in
    part_some g.A.Actor.saved_state s.tx is.birth is.kept (open_parts g.A.Actor.saved_state s.tx (saves_of s.log) is.saves is.birth is.kept is.tx).0

pub invariant_of-self : goal.invariant_of-self
invariant_of-self g c =
    let self = c.args.self.now in
    let m = machine_in g.A.Actor.state g.A.Actor.saved_state self in
    let t = c.args.t in
    let s = c.index_mut-thread.result.now in
    let h : t < length self.threads.items = c.requires.started in
    let its = thread_at g.A.Actor.state g.A.Actor.saved_state self.holders self.threads.items t s h c.index_mut-thread.ensures.value in
    let is = c.requires.open (local_of g.A.Actor.state g.A.Actor.saved_state self.holders t s) its in
    let p = layout_of self.memory in
    let sound = whole_sound p self.limit self.holders self.threads.items t s self.whole h c.index_mut-thread.ensures.value in
    let mine = open_parts g.A.Actor.saved_state s.tx (saves_of s.log) is.saves is.birth is.kept is.tx in
    record {
      whole = whole_set p self.limit self.holders self.threads.items t c.start_again.new.self self.whole
          (c.start_again.ensures.sound p (part_some g.A.Actor.saved_state s.tx is.birth is.kept mine.0));
    }

pub returns-clause-done : goal.returns-clause-done
returns-clause-done g c = λ l b k ss at tx.
    let self = c.args.self.now in
    let m = machine_in g.A.Actor.state g.A.Actor.saved_state self in
    let t = c.args.t in
    let s = c.index_mut-thread.result.now in
    let h : t < length self.threads.items = c.requires.started in
    let its = thread_at g.A.Actor.state g.A.Actor.saved_state self.holders self.threads.items t s h c.index_mut-thread.ensures.value in
    let is = c.requires.open (local_of g.A.Actor.state g.A.Actor.saved_state self.holders t s) its in
    let p = layout_of self.memory in
    let sound = whole_sound p self.limit self.holders self.threads.items t s self.whole h c.index_mut-thread.ensures.value in
    let mine = open_parts g.A.Actor.saved_state s.tx (saves_of s.log) is.saves is.birth is.kept is.tx in
    let same : local_of g.A.Actor.state g.A.Actor.saved_state self.holders t s ≡ l = same_Some _ l (sym its ∙ at) in
    let parts = open_parts g.A.Actor.saved_state s.tx (saves_of s.log) ss b k (ap (λ (v : Local g.A.Actor.State). v.tx) same ∙ tx) in
    let bound = word_bound (layout_in self) in
    let x = parts.0.tx in
    let copy : g.A.Actor.saved_state c.in_ok-copy.copy ≡ k =
    c.in_ok-copy.ensures s x (read_at self.threads.items t s h c.index_mut-thread.ensures.value) parts.0.is ∙ parts.0.kept in
    ap (kinded (Rolled c.args.word c.args.holder))
    (stepped g.A.Actor.state g.A.Actor.saved_state m self.holders self.holders self.threads.items t s c.start_again.new.self l
    (λ (v : Local g.A.Actor.State). again v b k) refl refl refl h c.index_mut-thread.ensures.value at (same_holds t self.holders)
    (again_hold g.A.Actor.state g.A.Actor.saved_state self.holders self.holders t s c.start_again.new.self x b k (g.A.Actor.saved_state c.in_ok-copy.copy)
    (c.start_again.ensures.local self.holders t x parts.0.is) c.requires.bare copy parts.0.birth parts.0.kept)
    c.start_again.ensures.waits)
    ∙ rolls_none (layout_in self) t m l b k ss c.args.word c.args.holder
    (ap (λ f. least f bound) (held_at g.A.Actor.state g.A.Actor.saved_state self.holders self.threads.items t l at)
    ∙ none_held (layout_in self) self.holders t c.requires.bare)

pub start_again-requires : goal.start_again-requires
start_again-requires g c =
    let self = c.args.self.now in
    let t = c.args.t in
    let s = c.index_mut-thread.result.now in
    let h : t < length self.threads.items = c.requires.started in
    let its = thread_at g.A.Actor.state g.A.Actor.saved_state self.holders self.threads.items t s h c.index_mut-thread.ensures.value in
    let is = c.requires.open (local_of g.A.Actor.state g.A.Actor.saved_state self.holders t s) its in
    let p = layout_of self.memory in
    let sound = whole_sound p self.limit self.holders self.threads.items t s self.whole h c.index_mut-thread.ensures.value in
    let mine = open_parts g.A.Actor.saved_state s.tx (saves_of s.log) is.saves is.birth is.kept is.tx in
    live_marks p s sound (open_live g.A.Actor.saved_state s.tx is.birth is.kept mine.0)
