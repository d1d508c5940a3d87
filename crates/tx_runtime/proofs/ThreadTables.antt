-- The threads after a change of one of them.
use Rattle.std.proofs.Common.{ℕ, zero, suc, ◌≡◌, ◌==◌, ◌<◌, ◌≤◌, Bool, true, false, cond, Option, Some, None, List, [], ◌∷◌, ◌++◌, ◌+◌, length, get_or, refl}
use Rattle.std.proofs.Common.{ap, sym, ◌∙◌, subst, inl, inr, arith}
use Rattle.std.specs.Prelude.{nat_lt, slice_get, ◌&&◌, is_some, Result, Ok, Err, OnOk, OnErr}
use Rattle.undo_log.specs.View.{HasCapacity}
use Rattle.tx_runtime.specs.Here.{IsReady, IsReadyToNote}
use Rattle.std.specs.List.{list_all}
use Rattle.std.proofs.Math.ListN.{set, length-set}
use Rattle.std.proofs.Math.Path.{fun_ext}
use Rattle.std.proofs.lemmas.Bool.{eqb-true, cases_eq, eq-eqb, ne_eqb, ltb-true, lt-ltb, and_parts}
use Rattle.std.proofs.lemmas.List.Folds.{list_all-append}
use Rattle.std.proofs.lemmas.Option.{slice_get_past, slice_get-get_or, same_Some}
use Rattle.tx_events.specs.Memory.{MemoryLayout, update}
use Rattle.own_table.specs.declared.table.Holders.{Holders}
use Rattle.own_table.specs.Table.{hold_of}
use Rattle.tx_events.proofs.ListLemmas.{get_set}
use Rattle.tx_serial.specs.Machine.{Machine, Local, Waits, no_waits, wait_more, birth_of}
use Rattle.tx_serial.specs.Turn.{Turned, steps, waited, bare}
use Rattle.tx_runtime.specs.Saves.{saves_of}
use Rattle.tx_events.specs.declared.TurnKind.{TurnKind}
use Rattle.tx_events.specs.declared.TurnKind.TheVariants.{Waited}
use Rattle.tx_runtime.specs.declared.engine.Engine.{Engine}
use Rattle.tx_runtime.specs.View.{machine_in}
use Rattle.tx_runtime.specs.declared.thread.ThreadSlot.{ThreadSlot}
use Rattle.tx_runtime.specs.Threads.{local_of, tx_of, local_in, threads_of, waits_of, waits_in, waits_by, held_in, wrote_in, is_write, is_sound, IsWhole}

-- a turn of this kind
abbrev pub kinded : {S : Type 0} → TurnKind → Machine S → Turned S
kinded k m = record { machine = m; kind = k }

-- the thread that was read
pub read_at : {X : Type 0} (xs : List X) (t : ℕ) (s : X) → t < length xs → s ≡ get_or xs t s → slice_get xs t ≡ Some s
read_at xs t s h e = slice_get-get_or xs t s h ∙ ap Some (sym e)

pub all_set : {X : Type 0} (p : X → Bool) (xs : List X) (i : ℕ) (v : X) → list_all p xs ≡ true → p v ≡ true → list_all p (set xs i v) ≡ true
all_set p [] i v h k = refl
all_set p (x ∷ xs) zero v h k = ap (λ b. b && list_all p xs) k ∙ (and_parts (p x) (list_all p xs) h).1
all_set p (x ∷ xs) (suc i) v h k = ap (λ b. b && list_all p (set xs i v)) (and_parts (p x) (list_all p xs) h).0
    ∙ all_set p xs i v (and_parts (p x) (list_all p xs) h).1 k

pub all_at : {X : Type 0} (p : X → Bool) (xs : List X) (i : ℕ) (d : X) → i < length xs → list_all p xs ≡ true → p (get_or xs i d) ≡ true
all_at p [] i d h a = absurd (omega (arith, h))
all_at p (x ∷ xs) zero d h a = (and_parts (p x) (list_all p xs) a).0
all_at p (x ∷ xs) (suc i) d h a = all_at p xs i d (omega (arith, h)) (and_parts (p x) (list_all p xs) a).1

-- no other thread holds another word, or otherwise
abbrev pub SameHolds : ℕ → Holders → Holders → Type 0
SameHolds t old new = (u x : ℕ) → (u == t) ≡ false → hold_of new u x ≡ hold_of old u x

module _ {A K S : Type 0} (state : A → S) (saved : K → S) where
  pub thread_at : (holders : Holders) (xs : List (ThreadSlot A K)) (t : ℕ) (s : ThreadSlot A K) → t < length xs → s ≡ get_or xs t s
      → threads_of state saved holders xs t ≡ Some (local_of state saved holders t s)
  unfolding threads_of
  thread_at holders xs t s h e = ap (local_in state saved holders t) (read_at xs t s h e)

  same_local : (old new : Holders) (u : ℕ) (o : Option (ThreadSlot A K)) → ((x : ℕ) → hold_of new u x ≡ hold_of old u x)
      → local_in state saved new u o ≡ local_in state saved old u o
  same_local old new u None same = refl
  same_local old new u (Some s) same =
      ap (λ f. Some (record (local_of state saved old u s) { held = f; wrote = wrote_in new u })) (fun_ext (λ x. ap is_some (same x)))
      ∙ ap (λ f. Some (record (local_of state saved old u s) { wrote = f })) (fun_ext (λ x. ap is_write (same x)))

  -- thread t was changed, and its holds
  pub one_thread : (old new : Holders) (xs : List (ThreadSlot A K)) (t : ℕ) (s : ThreadSlot A K) (l : Local S) → t < length xs → SameHolds t old new
      → local_of state saved new t s ≡ l → threads_of state saved new (set xs t s) ≡ update (threads_of state saved old xs) t (Some l)
  unfolding threads_of
  one_thread old new xs t s l h same e = fun_ext (λ u.
      ap (local_in state saved new u) (get_set xs t s u h)
      ∙ elim (u == t) as (λ b. (u == t) ≡ b → local_in state saved new u (cond b (Some s) (slice_get xs u)) ≡ cond b (Some l)
      (local_in state saved old u (slice_get xs u))) [
        | true ↦ λ q. ap (λ v. Some (local_of state saved new v s)) (eqb-true u t q) ∙ ap Some e
        | false ↦ λ q. same_local old new u (slice_get xs u) (λ x. same u x q)
      ] refl)

  -- only holds of thread t have changed
  pub same_threads : (old new : Holders) (xs : List (ThreadSlot A K)) → ((u x : ℕ) → hold_of new u x ≡ hold_of old u x)
      → threads_of state saved new xs ≡ threads_of state saved old xs
  unfolding threads_of
  same_threads old new xs same = fun_ext (λ u. same_local old new u (slice_get xs u) (same u))

  -- a thread that shows the same
  pub same_thread : (holders : Holders) (xs : List (ThreadSlot A K)) (t : ℕ) (s r : ThreadSlot A K) → t < length xs → s ≡ get_or xs t s
      → local_of state saved holders t r ≡ local_of state saved holders t s → threads_of state saved holders (set xs t r) ≡ threads_of state saved holders xs
  unfolding threads_of
  same_thread holders xs t s r h here e = fun_ext (λ u.
      ap (local_in state saved holders u) (get_set xs t r u h)
      ∙ elim (u == t) as (λ b. (u == t) ≡ b → local_in state saved holders u (cond b (Some r) (slice_get xs u)) ≡ local_in state saved holders u
      (slice_get xs u)) [
        | true ↦ λ q. ap (λ v. Some (local_of state saved holders v r)) (eqb-true u t q)
            ∙ (ap Some e ∙ (sym (ap (local_in state saved holders t) (read_at xs t s h here)) ∙ ap (λ v. local_in state saved holders v (slice_get xs v))
            (sym (eqb-true u t q))))
        | false ↦ λ q. refl
      ] refl)

pub one_waits : {A K : Type 0} (xs : List (ThreadSlot A K)) (t : ℕ) (s : ThreadSlot A K) (w : Waits) → t < length xs → waits_of s.waits ≡ w
    → waits_by (set xs t s) ≡ update (waits_by xs) t w
unfolding waits_by
one_waits xs t s w h e = fun_ext (λ u.
    ap waits_in (get_set xs t s u h) ∙ elim (u == t) as (λ b. waits_in (cond b (Some s) (slice_get xs u)) ≡ cond b w
    (waits_in (slice_get xs u))) [ true ↦ e | false ↦ refl ])

pub same_waits : {A K : Type 0} (xs : List (ThreadSlot A K)) (t : ℕ) (s r : ThreadSlot A K) → t < length xs → s ≡ get_or xs t s → r.waits ≡ s.waits
    → waits_by (set xs t r) ≡ waits_by xs
unfolding waits_by
same_waits xs t s r h here e = fun_ext (λ u.
    ap waits_in (get_set xs t r u h) ∙ elim (u == t) as (λ b. (u == t) ≡ b → waits_in (cond b (Some r) (slice_get xs u)) ≡ waits_in (slice_get xs u)) [
      | true ↦ λ q. ap waits_of e ∙ (sym (ap waits_in (read_at xs t s h here)) ∙ ap (λ v. waits_in (slice_get xs v)) (sym (eqb-true u t q)))
      | false ↦ λ q. refl
    ] refl)

-- the parts still fit together

pub whole_set : {A K : Type 0} (p : MemoryLayout) (limit : ℕ) (holders : Holders) (xs : List (ThreadSlot A K)) (t : ℕ) (s : ThreadSlot A K)
    → IsWhole p limit holders xs → is_sound p s ≡ true → IsWhole p limit holders (set xs t s)
whole_set p limit holders xs t s w h =
    let n : length (set xs t s) ≡ length xs = length-set xs t s in
    record {
      fits = w.fits;
      few = w.few;
      numbers = w.numbers;
      started = omega (arith, n, w.started);
      some = omega (arith, n, w.some);
      free = λ u x k. w.free u x (omega (arith, n, k));
      words = w.words;
      sound = all_set (is_sound p) xs t s w.sound h;
    }

pub whole_sound : {A K : Type 0} (p : MemoryLayout) (limit : ℕ) (holders : Holders) (xs : List (ThreadSlot A K)) (t : ℕ) (s : ThreadSlot A K)
    → IsWhole p limit holders xs → t < length xs → s ≡ get_or xs t s → is_sound p s ≡ true
whole_sound p limit holders xs t s w h e = ap (is_sound p) e ∙ all_at (is_sound p) xs t s h w.sound

pub same_holds : (t : ℕ) (holders : Holders) → SameHolds t holders holders
same_holds t holders u x e = refl

pub on_ok : {T E P Q : Type 0} (r : Result T E) → (P → Q) → OnOk r P → OnOk r Q
on_ok (Ok x) f h = f h
on_ok (Err e) f h = tt

pub ready_set : {A K : Type 0} (capacity : A → Type 0) (xs : List (ThreadSlot A K)) (t : ℕ) (r : ThreadSlot A K) → t < length xs → capacity r.actor
    → IsReady capacity t (set xs t r)
ready_set capacity xs t r h k s at =
    let is : slice_get (set xs t r) t ≡ Some r = get_set xs t r t h ∙ ap (λ b. cond b (Some r) (slice_get xs t)) (eq-eqb t t refl) in
    subst (λ z. capacity z.actor) (same_Some r s (sym is ∙ at)) k

pub note_ready_set : {A K : Type 0} (capacity : A → Type 0) (xs : List (ThreadSlot A K)) (t : ℕ) (r : ThreadSlot A K) → t < length xs → capacity r.actor
    → HasCapacity r.log → IsReadyToNote capacity t (set xs t r)
note_ready_set capacity xs t r h k n s at =
    let is : slice_get (set xs t r) t ≡ Some r = get_set xs t r t h ∙ ap (λ b. cond b (Some r) (slice_get xs t)) (eq-eqb t t refl) in
    subst (λ z. capacity z.actor × HasCapacity z.log) (same_Some r s (sym is ∙ at)) (k, n)

-- the machine where the threads have changed

pub changed : {S : Type 0} (m : Machine S) (f g : ℕ → Option (Local S)) (v w : ℕ → Waits) (n : ℕ) → f ≡ g → v ≡ w → n ≡ m.started
    → record m { threads = f; waits = v; started = n } ≡ record m { threads = g; waits = w }
changed m f g v w n e h k =
    ap (λ z. record m { threads = z; waits = v; started = n }) e
    ∙ (ap (λ z. record m { threads = g; waits = z; started = n }) h
    ∙ ap (λ z. record m { threads = g; waits = w; started = z }) k)

module _ {A K S : Type 0} (state : A → S) (saved : K → S) where
  -- thread t goes on, and becomes this
  pub stepped : (m : Machine S) (old new : Holders) (xs : List (ThreadSlot A K)) (t : ℕ) (s r : ThreadSlot A K) (l : Local S) (f : Local S → Local S)
      → m.threads ≡ threads_of state saved old xs → m.waits ≡ waits_by xs → m.started ≡ length xs
      → t < length xs → s ≡ get_or xs t s → m.threads t ≡ Some l → SameHolds t old new
      → local_of state saved new t r ≡ f (local_of state saved old t s) → waits_of r.waits ≡ no_waits
      → record m { threads = threads_of state saved new (set xs t r); waits = waits_by (set xs t r); started = length (set xs t r) } ≡ steps t m (f l)
  stepped m old new xs t s r l f mt mw ms h here at same is w =
      let its : local_of state saved old t s ≡ l = same_Some (local_of state saved old t s) l
      (sym (thread_at state saved old xs t s h here) ∙ (ap (λ z. z t) (sym mt) ∙ at)) in
      changed m (threads_of state saved new (set xs t r)) (update m.threads t (Some (f l))) (waits_by (set xs t r)) (update m.waits t no_waits)
      (length (set xs t r))
      (one_thread state saved old new xs t r (f l) h same (is ∙ ap f its) ∙ ap (λ z. update z t (Some (f l))) (sym mt))
      (one_waits xs t r no_waits h w ∙ ap (λ z. update z t no_waits) (sym mw))
      (length-set xs t r ∙ sym ms)

  -- the thread that was started
  pub started_thread : (e : Engine A K) (t : ℕ) → t < length e.threads.items → (l : Local S) × ((machine_in state saved e).threads t ≡ Some l)
  unfolding threads_of
  started_thread e t h = elim (e.threads.items) as (λ xs. t < length xs → (l : Local S) × (threads_of state saved e.holders xs t ≡ Some l)) [
    | [] ↦ λ k. absurd (omega (arith, k))
    | x ∷ xs ↦ λ k. (local_of state saved e.holders t (get_or (x ∷ xs) t x), ap (local_in state saved e.holders t) (slice_get-get_or (x ∷ xs) t x k))
  ] h

pub waits_at_slot : {A K : Type 0} (xs : List (ThreadSlot A K)) (t : ℕ) (s : ThreadSlot A K) → t < length xs → s ≡ get_or xs t s
    → waits_by xs t ≡ waits_of s.waits
unfolding waits_by
waits_at_slot xs t s h here = ap waits_in (read_at xs t s h here)

module _ {A K S : Type 0} (state : A → S) (saved : K → S) where
  -- thread t waits one turn more
  pub waited_row : (m : Machine S) (holders : Holders) (xs : List (ThreadSlot A K)) (t x b u : ℕ) (s r : ThreadSlot A K)
      → m.threads ≡ threads_of state saved holders xs → m.waits ≡ waits_by xs → m.started ≡ length xs → t < length xs → s ≡ get_or xs t s
      → local_of state saved holders t r ≡ local_of state saved holders t s → waits_of r.waits ≡ wait_more (waits_of s.waits) x b → b ≡ birth_of (m.threads u)
      → ◌≡◌ {A = Turned S} (record {
        machine = record m {
          threads = threads_of state saved holders (set xs t r);
          waits = waits_by (set xs t r);
          started = length
              (set xs t r);
        };
        kind = Waited x u;
      }) (waited t m x u)
  waited_row m holders xs t x b u s r mt mw ms h here same w least =
      let ws = m.waits in
      ap (kinded (Waited x u)) (changed m (threads_of state saved holders (set xs t r)) m.threads (waits_by (set xs t r)) (update ws t (wait_more (ws t) x b))
      (length (set xs t r))
      (same_thread state saved holders xs t s r h here same ∙ sym mt)
      (one_waits xs t r (wait_more (ws t) x b) h (w ∙ ap (λ z. wait_more z x b) (sym (waits_at_slot xs t s h here) ∙ ap (λ z. z t) (sym mw)))
      ∙ ap (λ z. update z t (wait_more (ws t) x b)) (sym mw))
      (length-set xs t r ∙ sym ms))
      ∙ ap (λ z. kinded (Waited x u) (record m { waits = update ws t (wait_more (ws t) x z) })) least

-- a new thread at the end

same_number : (u n : ℕ) → (suc u == suc n) ≡ (u == n)
same_number u n = elim (cases_eq u n) [
  | inl e ↦ eq-eqb (suc u) (suc n) (ap suc e) ∙ sym (eq-eqb u n e)
  | inr d ↦ ne_eqb (suc u) (suc n) (λ e. d (omega (arith, e))) ∙ sym (ne_eqb u n d)
]

get_push : {X : Type 0} (xs : List X) (v : X) (u : ℕ) → slice_get (xs ++ v ∷ []) u ≡ cond (u == length xs) (Some v) (slice_get xs u)
get_push [] v zero = refl
get_push {X} [] v (suc u) = ap (λ b. cond {A = Option X} b (Some v) None) (sym (ne_eqb (suc u) 0 (λ e. absurd (omega (arith, e)))))
get_push {X} (x ∷ xs) v zero = ap (λ b. cond {A = Option X} b (Some v) (Some x)) (sym (ne_eqb 0 (suc (length xs)) (λ e. absurd (omega (arith, e)))))
get_push {X} (x ∷ xs) v (suc u) = get_push xs v u ∙ ap (λ b. cond {A = Option X} b (Some v) (slice_get xs u)) (sym (same_number u (length xs)))

length_push : {X : Type 0} (xs : List X) (v : X) → length (xs ++ v ∷ []) ≡ length xs + 1
length_push [] v = refl
length_push (x ∷ xs) v = let rest = length_push xs v in omega (arith, rest)

pub whole_push : {A K : Type 0} (p : MemoryLayout) (limit : ℕ) (holders : Holders) (xs ys : List (ThreadSlot A K)) (s : ThreadSlot A K) → ys ≡ xs ++ s ∷ []
    → IsWhole p limit holders xs → length xs < limit → is_sound p s ≡ true → IsWhole p limit holders ys
whole_push p limit holders xs ys s e w h k =
    let n : length ys ≡ length xs + 1 = ap length e ∙ length_push xs s in
    record {
      fits = w.fits;
      few = w.few;
      numbers = w.numbers;
      started = omega (arith, n, h);
      some = omega (arith, n);
      free = λ u x l. w.free u x (omega (arith, n, l));
      words = w.words;
      sound = ap (list_all (is_sound p)) e ∙ (list_all-append (is_sound p) xs (s ∷ []) ∙
          (ap (λ b. b && list_all (is_sound p) (s ∷ [])) w.sound ∙ ap (λ b. b && true) k));
    }

pub ready_push : {A K : Type 0} (capacity : A → Type 0) (xs ys : List (ThreadSlot A K)) (s : ThreadSlot A K) (t : ℕ) → ys ≡ xs ++ s ∷ [] → t < length xs
    → IsReady capacity t xs → IsReady capacity t ys
ready_push capacity xs ys s t e h k r at =
    k r (sym (ap (λ zs. slice_get zs t) e ∙ (get_push xs s t ∙ ap (λ b. cond b (Some s) (slice_get xs t))
    (ne_eqb t (length xs) (λ q. absurd (omega (arith, q, h)))))) ∙ at)

module _ {A K S : Type 0} (state : A → S) (saved : K → S) where
  bare_local : (holders : Holders) (n : ℕ) (s : ThreadSlot A K) (child : S) → ((x : ℕ) → hold_of holders n x ≡ None) → state s.actor ≡ child → s.ended ≡ false
      → s.tx ≡ None → local_of state saved holders n s ≡ bare child
  bare_local holders n s child free e f h =
      ap (λ z. record (local_of state saved holders n s) { state = z }) e
      ∙ (ap (λ z. record (local_of state saved holders n s) { state = child; ended = z }) f
      ∙ (ap (λ z. record (local_of state saved holders n s) { state = child; ended = false; tx = tx_of saved z (saves_of s.log) }) h
      ∙ (ap (λ z. record (bare child) { held = z; wrote = wrote_in holders n }) (fun_ext (λ x. ap is_some (free x)))
      ∙ ap (λ z. record (bare child) { wrote = z }) (fun_ext (λ x. ap is_write (free x))))))

  pub threads_push : (holders : Holders) (xs ys : List (ThreadSlot A K)) (s : ThreadSlot A K) (child : S) → ys ≡ xs ++ s ∷ []
      → ((x : ℕ) → hold_of holders (length xs) x ≡ None) → state s.actor ≡ child → s.ended ≡ false → s.tx ≡ None
      → threads_of state saved holders ys ≡ update (threads_of state saved holders xs) (length xs) (Some (bare child))
  unfolding threads_of
  threads_push holders xs ys s child q free e f h = fun_ext (λ u.
      ap (λ zs. local_in state saved holders u (slice_get zs u)) q
      ∙ (ap (local_in state saved holders u) (get_push xs s u)
      ∙ elim (u == length xs) as (λ b. (u == length xs) ≡ b → local_in state saved holders u (cond b (Some s) (slice_get xs u)) ≡ cond b (Some (bare child))
      (local_in state saved holders u (slice_get xs u))) [
        | true ↦ λ k. ap (λ v. Some (local_of state saved holders v s)) (eqb-true u (length xs) k) ∙ ap Some (bare_local holders (length xs) s child free e f h)
        | false ↦ λ k. refl
      ] refl))

pub waits_push : {A K : Type 0} (xs ys : List (ThreadSlot A K)) (s : ThreadSlot A K) → ys ≡ xs ++ s ∷ [] → waits_of s.waits ≡ no_waits
    → waits_by ys ≡ waits_by xs
unfolding waits_by
waits_push xs ys s q e = fun_ext (λ u.
    ap (λ zs. waits_in (slice_get zs u)) q
    ∙ (ap waits_in (get_push xs s u)
    ∙ elim (u == length xs) as (λ b. (u == length xs) ≡ b → waits_in (cond b (Some s) (slice_get xs u)) ≡ waits_in (slice_get xs u)) [
      | true ↦ λ k. e ∙ sym (ap (λ v. waits_in (slice_get xs v)) (eqb-true u (length xs) k) ∙ ap waits_in (slice_get_past xs (length xs) (omega arith)))
      | false ↦ λ k. refl
    ] refl))

pub length_pushed : {X : Type 0} (xs ys : List X) (s : X) → ys ≡ xs ++ s ∷ [] → length ys ≡ length xs + 1
length_pushed xs ys s e = ap length e ∙ length_push xs s

pub not_less : (n k : ℕ) → k ≤ n → nat_lt n k ≡ false
not_less n k h = elim (nat_lt n k) as (λ b. nat_lt n k ≡ b → b ≡ false) [
  | true ↦ λ e. let l = ltb-true n k e in absurd (omega (arith, l, h))
  | false ↦ λ e. refl
] refl

pub less : (n k : ℕ) → n < k → nat_lt n k ≡ true
less n k h = lt-ltb n k h

pub no_thread : {A K S : Type 0} (state : A → S) (saved : K → S) (holders : Holders) (xs : List (ThreadSlot A K)) (n : ℕ) → length xs ≤ n
    → threads_of state saved holders xs n ≡ None
unfolding threads_of
no_thread state saved holders xs n h = ap (local_in state saved holders n) (slice_get_past xs n h)

pub push_at : {A K S : Type 0} (state : A → S) (saved : K → S) (holders : Holders) (xs ys : List (ThreadSlot A K)) (s : ThreadSlot A K) (t : ℕ)
    → ys ≡ xs ++ s ∷ [] → t < length xs → threads_of state saved holders ys t ≡ threads_of state saved holders xs t
unfolding threads_of
push_at state saved holders xs ys s t e h =
    ap (λ zs. local_in state saved holders t (slice_get zs t)) e
    ∙ (ap (local_in state saved holders t) (get_push xs s t)
    ∙ ap (λ b. local_in state saved holders t (cond b (Some s) (slice_get xs t))) (ne_eqb t (length xs) (λ q. absurd (omega (arith, q, h)))))

pub on_err : {T E P : Type 0} (r : Result T E) → P → OnErr r P
on_err (Ok x) h = tt
on_err (Err e) h = h

pub held_at : {A K S : Type 0} (state : A → S) (saved : K → S) (holders : Holders) (xs : List (ThreadSlot A K)) (t : ℕ) (l : Local S)
    → threads_of state saved holders xs t ≡ Some l → l.held ≡ held_in holders t
unfolding threads_of
held_at {A} {K} {S} state saved holders xs t l at = by_slot (slice_get xs t) at
  where
    by_slot : (o : Option (ThreadSlot A K)) → local_in state saved holders t o ≡ Some l → l.held ≡ held_in holders t
    by_slot None e = absurd (cc)
    by_slot (Some s) e = ap (λ (v : Local S). v.held) (sym (same_Some (local_of state saved holders t s) l e))

pub at_slot : {A K S : Type 0} (state : A → S) (saved : K → S) (holders : Holders) (xs : List (ThreadSlot A K)) (t : ℕ) (s : ThreadSlot A K)
    → slice_get xs t ≡ Some s → threads_of state saved holders xs t ≡ Some (local_of state saved holders t s)
unfolding threads_of
at_slot state saved holders xs t s e = ap (local_in state saved holders t) e
