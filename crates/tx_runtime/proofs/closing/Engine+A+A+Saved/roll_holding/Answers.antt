use Rattle.std.proofs.Common.{Bool, ℕ, ◌≡◌, ◌<◌, length, ap, sym, ◌∙◌, refl}
use Rattle.std.proofs.lemmas.Option.{same_Some}
use Rattle.tx_events.specs.declared.TurnKind.TheVariants.{Rolled}
use Rattle.tx_events.specs.Memory.{word_bound}
use Rattle.tx_memory.specs.View.{layout_of}
use Rattle.tx_serial.specs.Machine.{Local, GivingUp}
use Rattle.tx_runtime.specs.Saves.{saves_of}
use Rattle.tx_runtime.specs.Threads.{local_of}
use Rattle.tx_runtime.specs.View.{machine_in, layout_in}
use Rattle.tx_runtime.proofs.ThreadTables.{thread_at, stepped, same_holds, whole_set, whole_sound, kinded, held_at}
use Rattle.tx_runtime.proofs.HoldLemmas.{some_least, access_bound}
use Rattle.tx_runtime.proofs.TransactionParts.{open_parts, open_live}
use Rattle.tx_runtime.proofs.ClosingRows.{rolls_some}
use Rattle.tx_runtime.proofs.SlotLemmas.{live_marks}
use Rattle.tx_runtime.proofs.closing.Engine+A+A+Saved.roll_holding.Goals as goal

pub invariant_of-self : goal.invariant_of-self
invariant_of-self g c =
    let self = c.args.self.now in
    let m = machine_in g.A.Actor.state g.A.Actor.saved_state self in
    let t = c.args.t in
    let s = c.index_mut-thread.result.now in
    let h : t < length self.threads.items = c.requires.started in
    let its = thread_at g.A.Actor.state g.A.Actor.saved_state self.holders self.threads.items t s h c.index_mut-thread.ensures.value in
    let is = c.requires.open (local_of g.A.Actor.state g.A.Actor.saved_state self.holders t s) its in
    let p = layout_of self.memory in
    let sound = whole_sound p self.limit self.holders self.threads.items t s self.whole h c.index_mut-thread.ensures.value in
    let mine = open_parts g.A.Actor.saved_state s.tx (saves_of s.log) is.saves is.birth is.kept is.tx in
    record {
      whole = whole_set p self.limit self.holders self.threads.items t c.give_up.new.self self.whole
          (c.give_up.ensures.sound p (open_live g.A.Actor.saved_state s.tx is.birth is.kept mine.0) sound);
    }

pub returns-clause-done : goal.returns-clause-done
returns-clause-done g c = λ l b k ss at tx.
    let self = c.args.self.now in
    let m = machine_in g.A.Actor.state g.A.Actor.saved_state self in
    let t = c.args.t in
    let s = c.index_mut-thread.result.now in
    let h : t < length self.threads.items = c.requires.started in
    let its = thread_at g.A.Actor.state g.A.Actor.saved_state self.holders self.threads.items t s h c.index_mut-thread.ensures.value in
    let is = c.requires.open (local_of g.A.Actor.state g.A.Actor.saved_state self.holders t s) its in
    let p = layout_of self.memory in
    let sound = whole_sound p self.limit self.holders self.threads.items t s self.whole h c.index_mut-thread.ensures.value in
    let mine = open_parts g.A.Actor.saved_state s.tx (saves_of s.log) is.saves is.birth is.kept is.tx in
    let same : local_of g.A.Actor.state g.A.Actor.saved_state self.holders t s ≡ l = same_Some _ l (sym its ∙ at) in
    let parts = open_parts g.A.Actor.saved_state s.tx (saves_of s.log) ss b k (ap (λ (v : Local g.A.Actor.State). v.tx) same ∙ tx) in
    let bound = word_bound (layout_in self) in
    let x = parts.0.tx in
    let f = λ (v : Local g.A.Actor.State). record v { tx = GivingUp b k ss } in
    let some = c.requires.held in
    let least_is = some_least l.held bound some.0 (access_bound (layout_in self) some.0 (self.whole.words t some.0 some.1))
    (ap (λ (z : ℕ → Bool). z some.0) (held_at g.A.Actor.state g.A.Actor.saved_state self.holders self.threads.items t l at) ∙ some.1) in
    ap (kinded (Rolled c.args.word c.args.holder)) (stepped g.A.Actor.state g.A.Actor.saved_state m self.holders self.holders self.threads.items t s
    c.give_up.new.self l f refl refl refl h c.index_mut-thread.ensures.value at (same_holds t self.holders)
    (c.give_up.ensures.local self.holders t x parts.0.is
    ∙ (ap (λ z. record (local_of g.A.Actor.state g.A.Actor.saved_state self.holders t s) {
      tx = GivingUp z (g.A.Actor.saved_state x.kept)
          (saves_of s.log);
    }) parts.0.birth
    ∙ (ap (λ z. record (local_of g.A.Actor.state g.A.Actor.saved_state self.holders t s) { tx = GivingUp b z (saves_of s.log) }) parts.0.kept
    ∙ ap (λ z. record (local_of g.A.Actor.state g.A.Actor.saved_state self.holders t s) { tx = GivingUp b k z }) parts.1)))
    c.give_up.ensures.waits)
    ∙ rolls_some (layout_in self) t m l b k ss least_is.0 c.args.word c.args.holder least_is.1

pub give_up-requires : goal.give_up-requires
give_up-requires g c =
    let self = c.args.self.now in
    let t = c.args.t in
    let s = c.index_mut-thread.result.now in
    let h : t < length self.threads.items = c.requires.started in
    let its = thread_at g.A.Actor.state g.A.Actor.saved_state self.holders self.threads.items t s h c.index_mut-thread.ensures.value in
    let is = c.requires.open (local_of g.A.Actor.state g.A.Actor.saved_state self.holders t s) its in
    let p = layout_of self.memory in
    let sound = whole_sound p self.limit self.holders self.threads.items t s self.whole h c.index_mut-thread.ensures.value in
    let mine = open_parts g.A.Actor.saved_state s.tx (saves_of s.log) is.saves is.birth is.kept is.tx in
    live_marks p s sound (open_live g.A.Actor.saved_state s.tx is.birth is.kept mine.0)
