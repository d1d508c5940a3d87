-- What a runtime hands out, and the turns so far.
use Rattle.std.proofs.Common.{ℕ, zero, suc, ◌≡◌, ◌==◌, ◌<◌, ◌≤◌, Bool, true, false, cond, Option, Some, None, List, [], ◌∷◌, ◌++◌, length, refl, ap, sym, ◌∙◌}
use Rattle.std.proofs.Common.{subst, arith}
use Rattle.std.specs.Prelude.{is_some, slice_get, ◌&&◌, reverse, replicate}
use Rattle.choosers.specs.declared.Clash.{Clash}
use Rattle.choosers.specs.declared.Choice.{Choice}
use Rattle.tx_events.specs.declared.TheConstants.{THREAD_LIMIT}
use Rattle.tx_events.specs.declared.TurnKind.{TurnKind}
use Rattle.tx_events.specs.Memory.{MemoryLayout}
use Rattle.tx_events.specs.Thread.{Thread, Lawful}
use Rattle.tx_events.specs.World.{first_world}
use Rattle.own_table.specs.declared.table.Holders.{Holders}
use Rattle.own_table.specs.Table.{hold_of}
use Rattle.tx_serial.specs.Machine.{Machine, Local, Save, Waits, no_waits, held_by, wrote_by}
use Rattle.tx_serial.specs.Shows.{ShownByReplay}
use Rattle.tx_serial.specs.Shows as shows
use Rattle.tx_serial.specs.Turn.{Slot, turn, turns, bare, first_thread, first_machine}
use Rattle.tx_serial.proofs.OrderReplays.{turns_shown}
use Rattle.tx_runtime.specs.declared.thread.ThreadSlot.{ThreadSlot}
use Rattle.tx_runtime.specs.declared.engine.Engine.{Engine}
use Rattle.tx_runtime.specs.Here.{Chosen}
use Rattle.tx_runtime.specs.Runtime.{ReachedBy, KeepsOrder, HoldsOf, ShowsActor, saves_in, flag_in}
use Rattle.tx_runtime.specs.Saves.{saves_of, saves_by, is_nil, marks_fit, begins_at}
use Rattle.tx_runtime.specs.Threads.{local_in, threads_of, waits_of, waits_by, tx_of, tx_by, undoes, is_write, is_sound, has_saves, IsWhole}
use Rattle.tx_runtime.specs.View.{machine_in, layout_in}
use Rattle.tx_runtime.specs.declared.thread.Transaction.{Transaction}
use Rattle.tx_runtime.specs.declared.thread.Stage.TheVariants.{Open, Undoing, Releasing}
use Rattle.undo_log.specs.declared.undo.Log.{Log}
use Rattle.undo_log.specs.Notes.{can_put_back}
use Rattle.undo_log.specs.View.{notes_of, marks_of}
use Rattle.std.specs.List.{list_all}
use Rattle.std.proofs.Common.{get_or}
use Rattle.std.proofs.Math.Path.{fun_ext}
use Rattle.std.proofs.Math.ListN.{set}
use Rattle.std.proofs.lemmas.Bool.{and_parts, false≢true, ne_eqb}
use Rattle.tx_events.specs.Memory.{update}
use Rattle.own_table.specs.Table.{thread_limit}
use Rattle.tx_events.proofs.ListLemmas.{get_set}
use Rattle.tx_runtime.proofs.ThreadTables.{no_thread, thread_at, whole_sound, threads_push, waits_push}
use Rattle.tx_runtime.proofs.LogSavepoints.{saves_count}

module _ {S : Type 0} (a : Thread S) (p : MemoryLayout) where
  one_more : (slots : List Slot) (t : ℕ) (answer : Clash → Choice) (first : Machine S)
      → turns a p (slots ++ record { thread = t; answer = answer } ∷ []) first ≡ (turn a p answer t (turns a p slots first)).machine
  one_more [] t answer first = refl
  one_more (q ∷ qs) t answer first = one_more qs t answer (turn a p q.answer q.thread first).machine

  pub reached_after : (answers : Clash → Choice → Type 0) (allows : Clash → Choice → Bool) (t : ℕ) (old new first : Machine S) (kind : TurnKind)
      → Chosen a p answers allows t old kind new → ReachedBy a p first old → ReachedBy a p first new
  reached_after answers allows t old new first kind c r = (
    r.0 ++ record { thread = t; answer = λ _. c.choice } ∷ [],
    ap (λ z. z.machine) c.turned ∙ (ap (λ z. (turn a p (λ _. c.choice) t z).machine) r.1 ∙ sym (one_more r.0 t (λ _. c.choice) first)),
  )

  pub carried : (R : S → Type 0) (answers : Clash → Choice → Type 0) (allows : Clash → Choice → Bool) (t : ℕ) (old new : Machine S) (kind : TurnKind)
      → Lawful S R a → p.limit ≤ THREAD_LIMIT → Chosen a p answers allows t old kind new → KeepsOrder R a p old new
  carried R answers allows t old new kind lawful small c = record {
    reached = λ first. reached_after answers allows t old new first kind c;
    shown = λ memory input main reached free from.
        let to = reached_after answers allows t old new (first_machine memory input main) kind c from in
        subst (λ (z : Machine S). ShownByReplay a p (first_world memory input main) z) (sym to.1)
        (turns_shown R a p lawful small memory input main to.0 reached free);
  }

module _ {A K S : Type 0} (state : A → S) (saved : K → S) (e : Engine A K) where
  held_in_slot : (t x : ℕ) (o : Option (ThreadSlot A K)) → (o ≡ None → hold_of e.holders t x ≡ None)
      → is_some (hold_of e.holders t x) ≡ held_by (local_in state saved e.holders t o) x
  held_in_slot t x None free = ap is_some (free refl)
  held_in_slot t x (Some s) free = refl

  wrote_in_slot : (t x : ℕ) (o : Option (ThreadSlot A K)) → (o ≡ None → hold_of e.holders t x ≡ None)
      → is_write (hold_of e.holders t x) ≡ wrote_by (local_in state saved e.holders t o) x
  wrote_in_slot t x None free = ap is_write (free refl)
  wrote_in_slot t x (Some s) free = refl

none_past : {X : Type 0} (xs : List X) (t : ℕ) → slice_get xs t ≡ None → length xs ≤ t
none_past [] t h = omega arith
none_past (x ∷ xs) zero h = absurd (cc)
none_past (x ∷ xs) (suc t) h = let rest = none_past xs t h in omega (arith, rest)

pub holds_of : {A K S : Type 0} (state : A → S) (saved : K → S) (e : Engine A K) → HoldsOf (machine_in state saved e) e.limit e.holders
unfolding threads_of
holds_of state saved e = record {
  held = λ t x. held_in_slot state saved e t x (slice_get e.threads.items t) (λ h. e.whole.free t x (none_past e.threads.items t h));
  wrote = λ t x. wrote_in_slot state saved e t x (slice_get e.threads.items t) (λ h. e.whole.free t x (none_past e.threads.items t h));
  numbers = e.whole.numbers;
}

-- a log shows the savepoints of its thread

nil_marks : (ms : List ℕ) → is_nil ms ≡ true → ms ≡ []
nil_marks [] h = refl
nil_marks (m ∷ ms) h = absurd (false≢true h)

pub no_saves : (log : Log) → marks_of log ≡ [] → saves_of log ≡ []
unfolding saves_of
no_saves log h = ap (λ ms. saves_by (notes_of log) (reverse ms)) h

bare_of : (b : Bool) (ms : List ℕ) → marks_fit b ms ≡ true → b ≡ false → is_nil ms ≡ true
bare_of true ms h e = absurd (false≢true (sym e))
bare_of false ms h e = h

saves_shown : {K S : Type 0} (saved : K → S) (o : Option (Transaction K)) (ss : List Save) → (has_saves o ≡ false → ss ≡ [])
    → ss ≡ shows.saves_of (tx_of saved o ss)
saves_shown saved None ss h = h refl
saves_shown saved (Some x) ss h = elim (x.stage) as (λ g. x.stage ≡ g → ss ≡ shows.saves_of (tx_by g x.birth (saved x.kept) ss)) [
  | Open ↦ λ e. refl
  | Undoing ↦ λ e. refl
  | Releasing ↦ λ e. h (ap undoes e)
] refl

module _ {A K S : Type 0} (state : A → S) (saved : K → S) (e : Engine A K) (t : ℕ) where
  pub log_past : length e.threads.items ≤ t → (log : Log) → marks_of log ≡ [] → saves_of log ≡ saves_in ((machine_in state saved e).threads t)
  log_past h log none = no_saves log none ∙ ap saves_in (sym (no_thread state saved e.holders e.threads.items t h))

  pub actor_past : length e.threads.items ≤ t → ShowsActor state ((machine_in state saved e).threads t) None
  actor_past h = subst (λ o. ShowsActor state o None) (sym (no_thread state saved e.holders e.threads.items t h)) tt

  module _ (s : ThreadSlot A K) (here : t < length e.threads.items) (read : s ≡ get_or e.threads.items t s) where
    pub log_at : saves_of s.log ≡ saves_in ((machine_in state saved e).threads t)
    log_at =
        let sound = whole_sound (layout_in e) e.limit e.holders e.threads.items t s e.whole here read in
        let bare = (and_parts (can_put_back (layout_in e) (notes_of s.log) && begins_at (notes_of s.log) (marks_of s.log))
        (marks_fit (has_saves s.tx) (marks_of s.log)) sound).1 in
        saves_shown saved s.tx (saves_of s.log) (λ none. no_saves s.log (nil_marks (marks_of s.log) (bare_of (has_saves s.tx) (marks_of s.log) bare none)))
        ∙ ap saves_in (sym (thread_at state saved e.holders e.threads.items t s here read))

    pub actor_at : ShowsActor state ((machine_in state saved e).threads t) (Some s.actor)
    actor_at = subst (λ o. ShowsActor state o (Some s.actor)) (sym (thread_at state saved e.holders e.threads.items t s here read)) refl

pub marks_shown : (log : Log) (ss : List Save) → saves_of log ≡ ss → length (marks_of log) ≡ length ss
marks_shown log ss e = sym (saves_count log) ∙ ap length e

-- the machine at the start

pub first_whole : {A K : Type 0} (p : MemoryLayout) (limit : ℕ) (holders : Holders) (xs : List (ThreadSlot A K)) (s : ThreadSlot A K) → xs ≡ s ∷ []
    → p.limit ≡ limit → 0 < limit → limit ≤ THREAD_LIMIT → thread_limit holders ≡ limit
    → ((t x : ℕ) → hold_of holders t x ≡ None) → is_sound p s ≡ true → IsWhole p limit holders xs
first_whole p limit holders xs s e fits some few numbers free sound = let n : length xs ≡ 1 = ap length e in record {
  fits = sym fits;
  few = few;
  numbers = numbers;
  started = omega (arith, n, some);
  some = omega (arith, n);
  free = λ u x h. free u x;
  words = λ u x h. absurd (false≢true (sym (ap is_some (free u x)) ∙ h));
  sound = ap (list_all (is_sound p)) e ∙ ap (λ b. b && true) sound;
}

pub first_threads : {A K S : Type 0} (state : A → S) (saved : K → S) (holders : Holders) (xs : List (ThreadSlot A K)) (s : ThreadSlot A K) (main : S)
    → xs ≡ s ∷ [] → ((t x : ℕ) → hold_of holders t x ≡ None) → state s.actor ≡ main → s.ended ≡ false → s.tx ≡ None
    → threads_of state saved holders xs ≡ first_thread main
first_threads {A} {K} {S} state saved holders xs s main e free is runs none =
    threads_push state saved holders [] xs s main e (free 0) is runs none ∙ fun_ext at
  where
    at : (u : ℕ) → update (threads_of state saved holders []) 0 (Some (bare main)) u ≡ first_thread main u
    at zero = refl
    at (suc u) = ap (λ b. cond b (Some (bare main)) (threads_of state saved holders [] (suc u))) (ne_eqb (suc u) 0 (λ h. absurd (omega (arith, h))))
        ∙ no_thread state saved holders [] (suc u) (omega arith)

pub first_waits : {A K : Type 0} (xs : List (ThreadSlot A K)) (s : ThreadSlot A K) → xs ≡ s ∷ [] → waits_of s.waits ≡ no_waits → waits_by xs ≡ (λ _. no_waits)
unfolding waits_by
first_waits xs s e none = waits_push [] xs s e none

pub first_parts : {S : Type 0} (memory : ℕ → ℕ) (threads : ℕ → Option (Local S)) (waits : ℕ → Waits) (started : ℕ) (out order input left : List ℕ) (main : S)
    → threads ≡ first_thread main → started ≡ 1 → waits ≡ (λ _. no_waits) → out ≡ [] → order ≡ [] → left ≡ input
    → ◌≡◌ {A = Machine S} (record {
      memory = memory;
      threads = threads;
      started = started;
      lock = record { holder = None; depth = 0 };
      births = 0;
      waits =
          waits;
      out = out;
      input = left;
      order = order;
      end = None;
    }) (first_machine memory input main)
first_parts {S} memory threads waits started out order input left main a b c d e f =
    ap (λ z. record (first_machine memory left main) { threads = z; started = started; waits = waits; out = out; order = order }) a
    ∙ (ap (λ z. record (first_machine memory left main) { started = z; waits = waits; out = out; order = order }) b
    ∙ (ap (λ z. record (first_machine memory left main) { waits = z; out = out; order = order }) c
    ∙ (ap (λ z. record (first_machine memory left main) { out = z; order = order }) d
    ∙ (ap (λ z. record (first_machine memory left main) { order = z }) e
    ∙ ap (λ z. first_machine memory z main) f))))

-- the flag of one thread was set

pub flag_set : (xs : List Bool) (t : ℕ) (b c : Bool) → t < length xs → b ≡ c → (u : ℕ)
    → flag_in (slice_get (set xs t b) u) ≡ cond (u == t) c (flag_in (slice_get xs u))
flag_set xs t b c h e u = ap flag_in (get_set xs t b u h)
    ∙ elim (u == t) as (λ q. flag_in (cond q (Some b) (slice_get xs u)) ≡ cond q c (flag_in (slice_get xs u))) [ true ↦ e | false ↦ refl ]

pub no_flags : (n u : ℕ) (xs : List Bool) → xs ≡ replicate n false → flag_in (slice_get xs u) ≡ false
no_flags n u xs e = ap (λ z. flag_in (slice_get z u)) e ∙ none n u
  where
    none : (k v : ℕ) → flag_in (slice_get (replicate k false) v) ≡ false
    none zero v = refl
    none (suc k) zero = refl
    none (suc k) (suc v) = none k v
