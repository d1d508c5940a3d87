use Rattle.std.proofs.Common.{◌≡◌, ◌<◌, length, ap, sym, ◌∙◌, refl, arith, Some, subst}
use Rattle.std.proofs.Math.ListN.{set, length-set}
use Rattle.std.proofs.lemmas.Option.{same_Some}
use Rattle.tx_events.specs.declared.TurnKind.TheVariants.{Undone}
use Rattle.tx_events.specs.Memory.{update, word_bound}
use Rattle.tx_memory.specs.View.{layout_of, words_of}
use Rattle.tx_serial.specs.Machine.{Local, OpenTx, least, kept_or, is_noted}
use Rattle.tx_serial.specs.Turn.{steps}
use Rattle.tx_runtime.specs.Saves.{saves_of, newest, newest_without}
use Rattle.tx_runtime.specs.Threads.{local_of, threads_of, waits_by, IsWhole}
use Rattle.tx_runtime.specs.View.{machine_in, layout_in}
use Rattle.tx_runtime.proofs.ConflictingThreads.{first_least}
use Rattle.tx_runtime.proofs.ThreadTables.{thread_at, stepped, same_holds, same_thread, same_waits, changed, whole_set, whole_sound, kinded}
use Rattle.tx_runtime.proofs.HoldLemmas.{access_bound}
use Rattle.tx_runtime.proofs.TransactionParts.{open_parts, open_with, saves_long}
use Rattle.tx_runtime.proofs.InsideRows.{cancels_some}
use Rattle.tx_runtime.proofs.inside.Engine+A+A+Saved.undo_newest.Goals as goal

pub undo_newest-requires-clause-mark : goal.undo_newest-requires-clause-mark
undo_newest-requires-clause-mark g c =
    let self = c.args.self.now in
    let m = machine_in g.A.Actor.state g.A.Actor.saved_state self in
    let t = c.args.t in
    let s = c.index_mut-thread.result.now in
    let h : t < length self.threads.items = c.requires.started in
    let its = thread_at g.A.Actor.state g.A.Actor.saved_state self.holders self.threads.items t s h c.index_mut-thread.ensures.value in
    let is = c.requires.open (local_of g.A.Actor.state g.A.Actor.saved_state self.holders t s) its in
    let p = layout_of self.memory in
    let sound = whole_sound p self.limit self.holders self.threads.items t s self.whole h c.index_mut-thread.ensures.value in
    let some : 0 < length is.saves = c.requires.some (local_of g.A.Actor.state g.A.Actor.saved_state self.holders t s) is.birth is.kept is.saves its is.tx in
    let long = saves_long g.A.Actor.state g.A.Actor.saved_state self.holders t s
    (local_of g.A.Actor.state g.A.Actor.saved_state self.holders t s) is.birth is.kept is.saves refl is.tx in
    omega (arith, some, long)

pub invariant_of-self : goal.invariant_of-self
invariant_of-self g c =
    let self = c.args.self.now in
    let m = machine_in g.A.Actor.state g.A.Actor.saved_state self in
    let t = c.args.t in
    let s = c.index_mut-thread.result.now in
    let h : t < length self.threads.items = c.requires.started in
    let its = thread_at g.A.Actor.state g.A.Actor.saved_state self.holders self.threads.items t s h c.index_mut-thread.ensures.value in
    let is = c.requires.open (local_of g.A.Actor.state g.A.Actor.saved_state self.holders t s) its in
    let p = layout_of self.memory in
    let sound = whole_sound p self.limit self.holders self.threads.items t s self.whole h c.index_mut-thread.ensures.value in
    record {
      whole = subst (λ z. IsWhole z self.limit self.holders (set self.threads.items t c.undo_newest.new.self)) (sym c.undo_newest.ensures.layout)
          (whole_set p self.limit self.holders self.threads.items t c.undo_newest.new.self self.whole c.undo_newest.ensures.sound);
    }

pub returns-in_default-clause-none : goal.returns-in_default-clause-none
returns-in_default-clause-none g c = λ l b k ss x at tx.
    let self = c.args.self.now in
    let m = machine_in g.A.Actor.state g.A.Actor.saved_state self in
    let t = c.args.t in
    let s = c.index_mut-thread.result.now in
    let h : t < length self.threads.items = c.requires.started in
    let its = thread_at g.A.Actor.state g.A.Actor.saved_state self.holders self.threads.items t s h c.index_mut-thread.ensures.value in
    let is = c.requires.open (local_of g.A.Actor.state g.A.Actor.saved_state self.holders t s) its in
    let p = layout_of self.memory in
    let sound = whole_sound p self.limit self.holders self.threads.items t s self.whole h c.index_mut-thread.ensures.value in
    let same_l : local_of g.A.Actor.state g.A.Actor.saved_state self.holders t s ≡ l = same_Some _ l (sym its ∙ at) in
    let mine = open_parts g.A.Actor.saved_state s.tx (saves_of s.log) ss b k (ap (λ (v : Local g.A.Actor.State). v.tx) same_l ∙ tx) in
    ap (λ z. newest z x) (sym mine.1) ∙ c.in_default.ensures.none x

pub returns-in_default-clause-same : goal.returns-in_default-clause-same
returns-in_default-clause-same g c =
    let self = c.args.self.now in
    let m = machine_in g.A.Actor.state g.A.Actor.saved_state self in
    let t = c.args.t in
    let s = c.index_mut-thread.result.now in
    let h : t < length self.threads.items = c.requires.started in
    let its = thread_at g.A.Actor.state g.A.Actor.saved_state self.holders self.threads.items t s h c.index_mut-thread.ensures.value in
    let is = c.requires.open (local_of g.A.Actor.state g.A.Actor.saved_state self.holders t s) its in
    let p = layout_of self.memory in
    let sound = whole_sound p self.limit self.holders self.threads.items t s self.whole h c.index_mut-thread.ensures.value in
    ap (λ z. record m {
      memory = z;
      threads = threads_of g.A.Actor.state g.A.Actor.saved_state self.holders (set self.threads.items t c.undo_newest.new.self);
      waits = waits_by (set self.threads.items t c.undo_newest.new.self);
      started =
          length (set self.threads.items t c.undo_newest.new.self);
    }) c.in_default.ensures.same_words
    ∙ changed m (threads_of g.A.Actor.state g.A.Actor.saved_state self.holders (set self.threads.items t c.undo_newest.new.self)) m.threads
    (waits_by (set self.threads.items t c.undo_newest.new.self)) m.waits (length (set self.threads.items t c.undo_newest.new.self))
    (same_thread g.A.Actor.state g.A.Actor.saved_state self.holders self.threads.items t s c.undo_newest.new.self h c.index_mut-thread.ensures.value
    (c.in_default.ensures.same self.holders t))
    (same_waits self.threads.items t s c.undo_newest.new.self h c.index_mut-thread.ensures.value c.in_default.ensures.same_waits)
    (length-set self.threads.items t c.undo_newest.new.self)

pub returns-clause-done : goal.returns-clause-done
returns-clause-done g c = λ l b k st ss at tx.
    let self = c.args.self.now in
    let m = machine_in g.A.Actor.state g.A.Actor.saved_state self in
    let t = c.args.t in
    let s = c.index_mut-thread.result.now in
    let h : t < length self.threads.items = c.requires.started in
    let its = thread_at g.A.Actor.state g.A.Actor.saved_state self.holders self.threads.items t s h c.index_mut-thread.ensures.value in
    let is = c.requires.open (local_of g.A.Actor.state g.A.Actor.saved_state self.holders t s) its in
    let p = layout_of self.memory in
    let sound = whole_sound p self.limit self.holders self.threads.items t s self.whole h c.index_mut-thread.ensures.value in
    let same_l : local_of g.A.Actor.state g.A.Actor.saved_state self.holders t s ≡ l = same_Some _ l (sym its ∙ at) in
    let mine = open_parts g.A.Actor.saved_state s.tx (saves_of s.log) ss b k (ap (λ (v : Local g.A.Actor.State). v.tx) same_l ∙ tx) in
    let word = c.in-Some.word in
    let bound = word_bound (layout_in self) in
    let memory = words_of c.undo_newest.new.memory in
    let f = λ (v : Local g.A.Actor.State). record v { tx = OpenTx b k (newest_without word ss) } in
    let mem : memory ≡ update m.memory word (kept_or (newest ss word) (m.memory word)) = c.in-Some.ensures.words
    ∙ ap (λ z. update m.memory word (kept_or (newest z word) (m.memory word))) mine.1 in
    let least_is : least (is_noted (newest ss)) bound ≡ Some word = ap (λ z. least (is_noted (newest z)) bound) (sym mine.1)
    ∙ first_least (is_noted (newest (saves_of s.log))) bound word
    (access_bound (layout_in self) word c.in-Some.ensures.access) c.in-Some.ensures.noted c.in-Some.ensures.least in
    ap (kinded (Undone word)) (stepped g.A.Actor.state g.A.Actor.saved_state
    (record m {
      memory =
          memory;
    }) self.holders self.holders self.threads.items t s c.undo_newest.new.self l f refl refl refl h c.index_mut-thread.ensures.value at
    (same_holds t self.holders)
    (c.in-Some.ensures.local self.holders t
    ∙ ap (λ z. record (local_of g.A.Actor.state g.A.Actor.saved_state self.holders t s) { tx = z })
    (open_with g.A.Actor.saved_state s.tx b k mine.0 (newest_without word (saves_of s.log)) ∙ ap (λ z. OpenTx b k (newest_without word z)) mine.1))
    c.in-Some.ensures.waits)
    ∙ (ap (λ z. kinded (Undone word) (record (steps t m (f l)) { memory = z })) mem
    ∙ cancels_some (layout_in self) t m l st b k ss word (c.requires.some l b k ss at tx) least_is)
