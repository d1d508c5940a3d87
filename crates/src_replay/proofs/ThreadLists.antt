-- The threads that were started, after a change of one of them or with one more.
use Rattle.std.proofs.Common.{ℕ, ℤ, pos, negsuc, zero, suc, ◌≡◌, ◌==◌, ◌||◌, option_map, ◌<◌, ◌≤◌, Bool, true, false, not, cond, Option, Some, None, List, []}
use Rattle.std.proofs.Common.{◌∷◌, ◌++◌, length, get_or, set, refl, ap, sym, ◌∙◌, subst, inl, inr, arith, slice_get}
use Rattle.std.proofs.Math.ListN.{length-set}
use Rattle.std.proofs.Math.Path.{fun_ext}
use Rattle.std.proofs.lemmas.Bool.{eqb-true, eqb-false, cases_lt, cases_eq, ne_eqb, false≢true}
use Rattle.std.specs.Int.{FitsUnsignedBits}
use Rattle.std.proofs.lemmas.Int.{ints}
use Rattle.std.proofs.lemmas.List.{length-append}
use Rattle.std.proofs.lemmas.Option.{slice_get_past, slice_get-get_or, slice_get_within, same_Some}
use Rattle.tx_events.proofs.ListLemmas.{get_set}
use Rattle.tx_events.specs.Memory.{MemoryLayout, update}
use Rattle.tx_events.specs.World.{Alive as Started, alive, only_first, target}
use Rattle.tx_events.specs.declared.Event.{Event}
use Rattle.tx_events.specs.declared.Reply.{Reply}
use Rattle.src_mean.specs.Frames.{State}
use Rattle.src_mean.specs.Laws.{IsSettled}
use Rattle.src_mean.specs.Linked.{Program}
use Rattle.src_mean.specs.Source.{source}
use Rattle.src_mean.proofs.Blocks.{stays_settled, thread_begins}
use Rattle.src_thread.specs.Thread.{program_of, shown}
use Rattle.src_thread.specs.declared.thread.SourceThread.{SourceThread}
use Rattle.src_replay.specs.declared.threads.Alive.{Alive}
use Rattle.src_replay.specs.Entries.{is_going, has_ended}
use Rattle.src_replay.specs.Shown.{alive_in, threads_of, IsOf, Stand, IsSet, IsMore}

get_last : {X : Type 0} (xs : List X) (x : X) → slice_get (xs ++ x ∷ []) (length xs) ≡ Some x
get_last [] x = refl
get_last (y ∷ ys) x = get_last ys x

get_before : {X : Type 0} (xs : List X) (x : X) (u : ℕ) → (u ≡ length xs → ⊥) → slice_get (xs ++ x ∷ []) u ≡ slice_get xs u
get_before [] x zero h = absurd (h refl)
get_before [] x (suc u) h = refl
get_before (y ∷ ys) x zero h = refl
get_before (y ∷ ys) x (suc u) h = get_before ys x u (λ e. h (ap suc e))

-- what was read
pub read_at : {X : Type 0} (xs : List X) (t : ℕ) (s : X) → t < length xs → s ≡ get_or xs t s → slice_get xs t ≡ Some s
read_at xs t s h e = slice_get-get_or xs t s h ∙ ap Some (sym e)

pub thread_at : (xs : List Alive) (t : ℕ) (x : Alive) → t < length xs → x ≡ get_or xs t x → threads_of xs t ≡ alive_in (Some x)
unfolding threads_of
thread_at xs t x h e = ap alive_in (read_at xs t x h e)

-- a thread that is there stands in the list
some_alive : (o : Option Alive) (s : Started State) → alive_in o ≡ Some s → (x : Alive) × (o ≡ Some x)
some_alive None s e = let no : None ≡ Some s = e in absurd cc
some_alive (Some x) s e = (x, refl)

pub thread_within : (xs : List Alive) (t : ℕ) (s : Started State) → threads_of xs t ≡ Some s → t < length xs
unfolding threads_of
thread_within xs t s e = let x = some_alive (slice_get xs t) s e in slice_get_within xs t x.0 x.1

not_true : (b : Bool) → not b ≡ true → b ≡ false
not_true true h = absurd (false≢true h)
not_true false h = refl

-- one that goes is there, and has not ended
pub going_alive : (o : Option (Started State)) → is_going o ≡ true → (s : State) × (o ≡ alive s)
going_alive None h = absurd (false≢true h)
going_alive (Some x) h = (x.state, ap (λ b. Some (record { state = x.state; ended = b })) (not_true x.ended h))

-- one was changed
pub set_threads : (xs : List Alive) (t : ℕ) (x : Alive) (s : Started State) → t < length xs → alive_in (Some x) ≡ Some s
    → threads_of (set xs t x) ≡ update (threads_of xs) t (Some s)
unfolding threads_of
set_threads xs t x s h e = fun_ext (λ u.
    ap alive_in (get_set xs t x u h) ∙ elim (u == t) as (λ b. alive_in (cond b (Some x) (slice_get xs u)) ≡ cond b (Some s)
    (alive_in (slice_get xs u))) [ true ↦ e | false ↦ refl ])

pub set_each : (program : Program) (xs : List Alive) (t : ℕ) (x : Alive) → t < length xs → ((k : ℕ) (y : Alive) → slice_get xs k ≡ Some y → IsOf program y)
    → IsOf program x
    → (k : ℕ) (y : Alive) → slice_get (set xs t x) k ≡ Some y → IsOf program y
set_each program xs t x h each of k y e =
    elim (k == t) as (λ b. cond b (Some x) (slice_get xs k) ≡ Some y → IsOf program y) [
      | true ↦ λ q. subst (IsOf program) (same_Some x y q) of
      | false ↦ λ q. each k y q
    ] (sym (get_set xs t x k h) ∙ e)

pub is_set : (program : Program) (p : MemoryLayout) (xs : List Alive) (t : ℕ) (x : Alive) (s : Started State) → t < length xs → alive_in (Some x) ≡ Some s
    → IsOf program x → Stand program p xs → IsSet program p t s xs (set xs t x)
is_set program p xs t x s h e of stand =
    let n : length (set xs t x) ≡ length xs = length-set xs t x in
    record {
      threads = set_threads xs t x s h e;
      count = n;
      stand = record { each = set_each program xs t x h stand.each of; few = omega (arith, n, stand.few); limit = stand.limit };
    }

-- one more was started
more_threads : (xs : List Alive) (x : Alive) (s : Started State) → alive_in (Some x) ≡ Some s
    → threads_of (xs ++ x ∷ []) ≡ update (threads_of xs) (length xs) (Some s)
unfolding threads_of
more_threads xs x s e = fun_ext (λ u. elim (u == length xs) as (λ b. (u == length xs) ≡ b → alive_in (slice_get (xs ++ x ∷ []) u) ≡ cond b (Some s)
    (alive_in (slice_get xs u))) [
      | true ↦ λ q. ap (λ n. alive_in (slice_get (xs ++ x ∷ []) n)) (eqb-true u (length xs) q) ∙ (ap alive_in (get_last xs x) ∙ e)
      | false ↦ λ q. ap alive_in (get_before xs x u (eqb-false u (length xs) q))
    ] refl)

more_each : (program : Program) (xs : List Alive) (x : Alive) → ((k : ℕ) (y : Alive) → slice_get xs k ≡ Some y → IsOf program y) → IsOf program x
    → (k : ℕ) (y : Alive) → slice_get (xs ++ x ∷ []) k ≡ Some y → IsOf program y
more_each program xs x each of k y e =
    elim (cases_eq k (length xs)) [
      | inl q ↦ subst (IsOf program) (same_Some x y (sym (get_last xs x) ∙ (ap (λ n. slice_get (xs ++ x ∷ []) n) (sym q) ∙ e))) of
      | inr q ↦ each k y (sym (get_before xs x k q) ∙ e)
    ]

pub is_more : (program : Program) (xs : List Alive) (x : Alive) (s : State) → alive_in (Some x) ≡ alive s → IsOf program x
    → ((k : ℕ) (y : Alive) → slice_get xs k ≡ Some y → IsOf program y) → IsMore program s xs (xs ++ x ∷ [])
is_more program xs x s e of each = record {
  threads = more_threads xs x (record { state = s; ended = false }) e;
  count = length-append xs (x ∷ []);
  each = more_each program xs x each of;
}

-- the first thread alone
pub one_thread : (x : Alive) (s : State) → alive_in (Some x) ≡ alive s → (u : ℕ) → threads_of (x ∷ []) u ≡ only_first s u
unfolding threads_of
one_thread x s e zero = e
one_thread x s e (suc u) = refl

-- the thread that was read, in its state
same_started : (xs : List Alive) (t : ℕ) (x : Alive) (s : Started State) → t < length xs → x ≡ get_or xs t x → threads_of xs t ≡ Some s
    → ◌≡◌ {A = Started State} (record { state = shown x.thread; ended = x.ended }) s
same_started xs t x s h e at = same_Some _ s (sym (thread_at xs t x h e) ∙ at)

pub next_event : (xs : List Alive) (t : ℕ) (x : Alive) (s : Started State) (r : Event) → t < length xs → x ≡ get_or xs t x → threads_of xs t ≡ Some s
    → r ≡ (shown x.thread).event → r ≡ s.state.event
next_event xs t x s r h e at n = n ∙ ap (λ (z : Started State). z.state.event) (same_started xs t x s h e at)

module _ (program : Program) (p : MemoryLayout) (xs : List Alive) (t : ℕ) (x : Alive) (s : State) where
  -- the thread went on
  pub gone_on : (new : SourceThread) (reply : Reply) → t < length xs → x ≡ get_or xs t x → Stand program p xs → threads_of xs t ≡ alive s
      → program_of new ≡ program_of x.thread
      → shown new ≡ (source (program_of x.thread)).after (shown x.thread) reply
      → IsSet program p t (record { state = (source program).after s reply; ended = false }) xs (set xs t (record { thread = new; ended = x.ended }))
  gone_on new reply h e stand at runs state =
      let same = same_started xs t x (record { state = s; ended = false }) h e at in
      let here : shown x.thread ≡ s = ap (λ (z : Started State). z.state) same in
      let going : x.ended ≡ false = ap (λ (z : Started State). z.ended) same in
      let of = stand.each t x (read_at xs t x h e) in
      let after : shown new ≡ (source program).after s reply = state
      ∙ (ap (λ (z : Program). (source z).after (shown x.thread) reply) of.runs ∙ ap (λ (z : State). (source program).after z reply) here) in
      is_set program p xs t (record { thread = new; ended = x.ended }) (record { state = (source program).after s reply; ended = false }) h
      (ap (λ (z : State). Some (record { state = z; ended = x.ended })) after
      ∙ ap (λ (b : Bool). Some (record { state = (source program).after s reply; ended = b })) going)
      (record { runs = runs ∙ of.runs; settled = subst IsSettled (sym after) (stays_settled program s reply (subst IsSettled here of.settled)).settled }) stand

  -- it has ended
  pub over : t < length xs → x ≡ get_or xs t x → Stand program p xs → threads_of xs t ≡ alive s
      → IsSet program p t (record { state = s; ended = true }) xs (set xs t (record { thread = x.thread; ended = true }))
  over h e stand at =
      let here : shown x.thread ≡ s = ap (λ (z : Started State). z.state) (same_started xs t x (record { state = s; ended = false }) h e at) in
      let of = stand.each t x (read_at xs t x h e) in
      is_set program p xs t (record { thread = x.thread; ended = true }) (record { state = s; ended = true }) h
      (ap (λ (z : State). Some (record { state = z; ended = true })) here)
      (record { runs = of.runs; settled = of.settled }) stand

  -- it started another one
  pub begun : (new : SourceThread) (number func : ℕ) (arg : ℤ) → t < length xs → x ≡ get_or xs t x → Stand program p xs → threads_of xs t ≡ alive s
      → program_of new ≡ program_of x.thread
      → shown new ≡ (source (program_of x.thread)).child (shown x.thread) number func arg
      → IsMore program ((source program).child s number func arg) xs (xs ++ record { thread = new; ended = false } ∷ [])
  begun new number func arg h e stand at runs state =
      let of = stand.each t x (read_at xs t x h e) in
      let first : shown new ≡ (source program).child s number func arg = state ∙ ap (λ (z : Program). (source z).child s number func arg) of.runs in
      is_more program xs (record { thread = new; ended = false }) ((source program).child s number func arg)
      (ap (λ (z : State). Some (record { state = z; ended = false })) first)
      (record { runs = runs ∙ of.runs; settled = subst IsSettled (sym first) (thread_begins program number func arg).settled }) stand.each

-- what a look into the list found
pub found_at : (xs ys : List Alive) (t : ℕ) (x : Alive) → ys ≡ xs → t < length ys → x ≡ get_or ys t x → threads_of xs t ≡ alive_in (Some x)
found_at xs ys t x same h e = subst (λ (zs : List Alive). threads_of zs t ≡ alive_in (Some x)) same (thread_at ys t x h e)

pub none_at : (xs ys : List Alive) (t : ℕ) → ys ≡ xs → length ys ≤ t → threads_of xs t ≡ None
unfolding threads_of
none_at xs ys t same h = subst (λ (zs : List Alive). alive_in (slice_get zs t) ≡ None) same (ap alive_in (slice_get_past ys t h))

-- whether the thread that may be joined has ended
pub joined : (xs : List Alive) (t n : ℕ) (o : Option (Started State)) → (n ≡ 0 → ⊥) → (n ≡ t → ⊥) → threads_of xs n ≡ o
    → option_map has_ended o ≡ option_map has_ended (target t (pos n) (threads_of xs))
joined xs t n o some other e =
    sym (ap (λ b. option_map has_ended (cond (b || (n == t)) None (threads_of xs n))) (ne_eqb n 0 some)
    ∙ (ap (λ b. option_map has_ended (cond (false || b) None (threads_of xs n))) (ne_eqb n t other) ∙ ap (option_map has_ended) e))

neither : (b : Bool) (o : Option (Started State)) → o ≡ None → None ≡ option_map has_ended (cond b None o)
neither true o e = refl
neither false o e = ap (option_map has_ended) (sym e)

fits : (n : ℕ) → n < 256 → FitsUnsignedBits 8 (pos n)
fits n h = omega (arith, ints, h)

pub no_target : (xs : List Alive) (t : ℕ) (id : ℤ) → length xs ≤ 256 → (FitsUnsignedBits 8 id → ⊥) → None ≡ option_map has_ended (target t id (threads_of xs))
no_target xs t (pos n) few wide =
    elim (cases_lt n 256) [
      | inl l ↦ absurd (wide (fits n l))
      | inr h ↦ neither ((n == 0) || (n == t)) (threads_of xs n) (none_at xs xs n refl (omega (arith, h, few)))
    ]
no_target xs t (negsuc n) few wide = refl
