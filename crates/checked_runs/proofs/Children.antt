-- No world starts a thread with the number 0, so it does not matter what threads would start with that number.
use Rattle.std.proofs.Common.{ℕ, ℤ, pos, ◌≡◌, ◌==◌, ◌+◌, ◌≤◌, Bool, true, false, cond, refl, ap, sym, ◌∙◌, subst, List, [], ◌∷◌, Option, Some, None, arith}
use Rattle.std.specs.Prelude.{nat_lt}
use Rattle.std.proofs.lemmas.Bool.{true≢false, eqb-true}
use Rattle.tx_events.specs.declared.TheConstants.{THREAD_LIMIT}
use Rattle.tx_events.specs.declared.Trap.TheVariants.{BadAddress, TooManyThreads}
use Rattle.tx_events.specs.declared.End.TheVariants.{Trapped}
use Rattle.tx_events.specs.declared.BlockKind.{BlockKind}
use Rattle.tx_events.specs.declared.BlockKind.TheVariants.{NoExcept, Commit, Cancel}
use Rattle.tx_events.specs.declared.Event.{Event}
use Rattle.tx_events.specs.declared.Event.TheVariants.{Silent, Load, Store, Out, Inp, Spawn, Join, BeginAtomic, EndAtomic, Raise, BeginSync, EndSync, Done}
use Rattle.tx_events.specs.declared.Event.TheVariants.{Stop}
use Rattle.tx_events.specs.declared.Reply.{Reply}
use Rattle.tx_events.specs.declared.Reply.TheVariants.{Nothing, Loaded, Id}
use Rattle.tx_events.specs.Thread.{Thread}
use Rattle.tx_events.specs.Memory.{MemoryLayout, can_access, load, store, update}
use Rattle.tx_events.specs.Alone.{Inner, inner_by, leave, raise, newest, BlockStep, Goes, Leaves, Halts, Never, Inside, at_start, goes_on, is_over, Alone}
use Rattle.tx_events.specs.Alone.{outcome}
use Rattle.tx_events.specs.World.{Alive, alive, World, Step, Replays, EventStep, BlockEffect, Joins, target, goes, ends, SilentSteps, none, one_more}
use Rattle.tx_events.specs.World.{first_world}
use Rattle.tx_events.specs.Same.{Reaches, at_once, silently, answered, Comes, SameEvents, Descends, at_first, went_on, started, SameChildren, with_threads}
use Rattle.tx_events.proofs.Lifting.{starts_lift}

-- the thread, with other first states of those that it starts
abbrev pub with_child : {S : Type 0} → Thread S → (S → ℕ → ℕ → ℤ → S) → Thread S
with_child a c = record { next = a.next; after = a.after; child = c; blocks = a.blocks }

module _ {S : Type 0} (a : Thread S) (c d : S → ℕ → ℕ → ℤ → S) where
  abbrev x : Thread S
  x = with_child a c

  abbrev y : Thread S
  y = with_child a d

  -- events are the same
  reaches_alike : {s q : S} {replies : List Reply} → Reaches x s replies q → Reaches y s replies q
  reaches_alike at_once = at_once
  reaches_alike (silently e r) = silently e (reaches_alike r)
  reaches_alike (answered e f r) = answered e f (reaches_alike r)

  pub comes_alike : {s : S} {replies : List Reply} {event : Event} → Comes x s replies event → Comes y s replies event
  comes_alike h = record { at = h.at; reaches = reaches_alike h.reaches; is = h.is }

  -- so are blocks
  leave_alike : (i : Inner S) (memory : ℕ → ℕ) (copies : List (ℕ → ℕ)) → leave x i memory copies ≡ leave y i memory copies
  leave_alike i memory [] = refl
  leave_alike i memory (m ∷ []) = refl
  leave_alike i memory (m ∷ n ∷ ms) = refl

  raise_alike : (i : Inner S) (kind : BlockKind) (cancels : Bool) → raise x i kind cancels ≡ raise y i kind cancels
  raise_alike i NoExcept cancels = refl
  raise_alike i Commit cancels = leave_alike i i.memory i.copies
  raise_alike i Cancel true = leave_alike i (newest i.copies i.memory) i.copies
  raise_alike i Cancel false = refl

  module _ (p : MemoryLayout) where
    inner_alike : (i : Inner S) (e : Event) → inner_by x p i e ≡ inner_by y p i e
    inner_alike i Silent = refl
    inner_alike i (Load addr size volatile) = refl
    inner_alike i (Store addr size value volatile) = refl
    inner_alike i (BeginAtomic kind) = refl
    inner_alike i EndAtomic = leave_alike i i.memory i.copies
    inner_alike i (Raise kind cancels) = raise_alike i kind cancels
    inner_alike i BeginSync = refl
    inner_alike i EndSync = refl
    inner_alike i (Stop end) = refl
    inner_alike i (Out byte) = refl
    inner_alike i Inp = refl
    inner_alike i (Spawn func arg) = refl
    inner_alike i (Join id) = refl
    inner_alike i Done = refl

    inside_alike : {i j : Inner S} → Inside x p i j → Inside y p i j
    inside_alike at_start = at_start
    inside_alike (goes_on {j} {k} h e) = goes_on (inside_alike h) (sym (inner_alike j (a.next j.state)) ∙ e)

    abbrev alone_alike : (s : S) (memory : ℕ → ℕ) → Alone x p s memory → Alone y p s memory
    alone_alike s memory h = record { last = h.last; run = inside_alike h.run; over = ap is_over (sym (inner_alike h.last (a.next h.last.state))) ∙ h.over }

  silents_alike : {s q : S} → SilentSteps x s q → SilentSteps y s q
  silents_alike none = none
  silents_alike (one_more h e) = one_more (silents_alike h) e

  -- and steps, where first states are the same under each number but 0
  module _ (same : (s : S) (number func : ℕ) (arg : ℤ) → (number == 0) ≡ false → c s number func arg ≡ d s number func arg) (p : MemoryLayout) where
    does_alike : (t : ℕ) (w : World S) (s : S) (e : Event) (v : World S) → (w.started == 0) ≡ false → EventStep x p t w s e v → EventStep y p t w s e v
    does_alike t w s Silent v n h = h
    does_alike t w s EndAtomic v n h = h
    does_alike t w s (Raise kind cancels) v n h = h
    does_alike t w s (Load addr size volatile) v n h = h
    does_alike t w s (Store addr size value volatile) v n h = h
    does_alike t w s (Out byte) v n h = h
    does_alike t w s Inp v n h = h
    does_alike t w s (Spawn func arg) v n h = h ∙ ap (λ z. cond (nat_lt w.started p.limit)
        (record w { started = w.started + 1; threads = update (update w.threads w.started (alive z)) t (alive (a.after s (Id (pos w.started)))) })
        (ends w (Trapped TooManyThreads))) (same s w.started func arg n)
    does_alike t w s (Join id) v n h = h
    does_alike t w s BeginSync v n h = h
    does_alike t w s EndSync v n h = h
    does_alike t w s Done v n h = h
    does_alike t w s (Stop end) v n h = h
    does_alike t w s (BeginAtomic kind) v n h = (
      h.0,
      alone_alike p (a.after s Nothing) w.memory h.1,
      subst (λ z. BlockEffect t w z v)
          (inner_alike p h.1.last (a.next h.1.last.state)) h.2,
    )

    one_more_starts : (n : ℕ) → ((n + 1) == 0) ≡ false
    one_more_starts n = not_zero (n + 1) (omega arith) ((n + 1) == 0) refl where
      not_zero : (m : ℕ) → 1 ≤ m → (b : Bool) → (m == 0) ≡ b → (m == 0) ≡ false
      not_zero m h true e = let z : m ≡ 0 = eqb-true m 0 e in let no : ⊥ = omega (arith, z, h) in absurd no
      not_zero m h false e = e

    either_starts : (b : Bool) (w u v : World S) → (w.started == 0) ≡ false → (u.started == 0) ≡ false → v ≡ cond b w u → (v.started == 0) ≡ false
    either_starts true w u v f g h = ap (λ z. z.started == 0) h ∙ f
    either_starts false w u v f g h = ap (λ z. z.started == 0) h ∙ g

    block_starts : (t : ℕ) (w : World S) (b : BlockStep S) (v : World S) → (w.started == 0) ≡ false → BlockEffect t w b v → (v.started == 0) ≡ false
    block_starts t w (Goes i) v n h = absurd h
    block_starts t w Never v n h = absurd h
    block_starts t w (Leaves s memory) v n h = ap (λ z. z.started == 0) h ∙ n
    block_starts t w (Halts end) v n h = ap (λ z. z.started == 0) h ∙ n

    join_starts : (t : ℕ) (w : World S) (s : S) (o : Option (Alive S)) (v : World S) → (w.started == 0) ≡ false → Joins t w s o v → (v.started == 0) ≡ false
    join_starts t w s None v n h = ap (λ z. z.started == 0) h ∙ n
    join_starts t w s (Some u) v n h = ap (λ z. z.started == 0) h.1 ∙ n

    -- a thread is there, and stays
    stays_started : (t : ℕ) (w : World S) (s : S) (e : Event) (v : World S) → (w.started == 0) ≡ false → EventStep x p t w s e v → (v.started == 0) ≡ false
    stays_started t w s Silent v n h = absurd h
    stays_started t w s EndAtomic v n h = absurd h
    stays_started t w s (Raise kind cancels) v n h = absurd h
    stays_started t w s (Load addr size volatile) v n h =
        either_starts (can_access p addr size) (goes t w (a.after s (Loaded (load w.memory addr size)))) (ends w (Trapped BadAddress)) v n n h
    stays_started t w s (Store addr size value volatile) v n h =
        either_starts (can_access p addr size) (record w { memory = store w.memory addr size value; threads = update w.threads t (alive (a.after s Nothing)) })
        (ends w (Trapped BadAddress)) v n n h
    stays_started t w s (Out byte) v n h = ap (λ z. z.started == 0) h ∙ n
    stays_started t w s Inp v n h = ap (λ z. z.started == 0) h ∙ n
    stays_started t w s (Spawn func arg) v n h = either_starts (nat_lt w.started p.limit)
        (record w {
          started = w.started + 1;
          threads =
              update (update w.threads w.started (alive (c s w.started func arg))) t (alive (a.after s (Id (pos w.started))));
        })
        (ends w (Trapped TooManyThreads)) v (one_more_starts w.started) n h
    stays_started t w s (Join id) v n h = join_starts t w (a.after s Nothing) (target t id w.threads) v n h
    stays_started t w s BeginSync v n h = ap (λ z. z.started == 0) h.1 ∙ n
    stays_started t w s EndSync v n h = ap (λ z. z.started == 0) h ∙ n
    stays_started t w s Done v n h = ap (λ z. z.started == 0) h ∙ n
    stays_started t w s (Stop end) v n h = ap (λ z. z.started == 0) h ∙ n
    stays_started t w s (BeginAtomic kind) v n h = block_starts t w (outcome h.1) v n h.2

    step_alike : (t : ℕ) (w v : World S) → (w.started == 0) ≡ false → Step x p t w v → Step y p t w v
    step_alike t w v n h = record {
      going = h.going;
      from = h.from;
      before = h.before;
      is = h.is;
      silents = silents_alike h.silents;
      does =
          does_alike t w h.before (a.next h.before) v n h.does;
    }

    pub replays_alike : (order : List ℕ) (w v : World S) → (w.started == 0) ≡ false → Replays x p w order v → Replays y p w order v
    replays_alike [] w v n h = h
    replays_alike (t ∷ ts) w v n h = (
      h.0,
      step_alike t w h.0 n h.1,
      replays_alike ts h.0 v
          (stays_started t w h.1.before (a.next h.1.before) h.0 n h.1.does) h.2,
    )

-- under the number 0 a thread would start itself once more
abbrev pub or_itself : {S : Type 0} → Thread S → S → ℕ → ℕ → ℤ → S
or_itself a s number func arg = cond (number == 0) s (a.child s number func arg)

module _ {S : Type 0} (a : Thread S) where
  abbrev pub own : Thread S
  own = with_child a (or_itself a)

  by_number : (s : S) (number func : ℕ) (arg : ℤ) (b : Bool) → (number == 0) ≡ b → b ≡ false → or_itself a s number func arg ≡ a.child s number func arg
  by_number s number func arg true e f = absurd (true≢false f)
  by_number s number func arg false e f = ap (λ z. cond z s (a.child s number func arg)) e

  pub own_child : (s : S) (number func : ℕ) (arg : ℤ) → (number == 0) ≡ false → or_itself a s number func arg ≡ a.child s number func arg
  own_child s number func arg e = by_number s number func arg (number == 0) refl e

  pub child_own : (s : S) (number func : ℕ) (arg : ℤ) → (number == 0) ≡ false → a.child s number func arg ≡ or_itself a s number func arg
  child_own s number func arg e = sym (own_child s number func arg e)

  one_started : (main : S) {s : S} (number func : ℕ) (arg : ℤ) → Descends a main s → a.next s ≡ Spawn func arg → (b : Bool)
      → Descends a main (cond b s (a.child s number func arg))
  one_started main number func arg h e true = h
  one_started main number func arg h e false = started number func arg h e

  -- the states that its threads come to are those of the thread itself
  pub own_descends : (main : S) {s : S} → Descends own main s → Descends a main s
  own_descends main at_first = at_first
  own_descends main (went_on reply h e) = went_on reply (own_descends main h) e
  own_descends main (started number func arg h e) = one_started main number func arg (own_descends main h) e (number == 0)

module _ {S T : Type 0} (a : Thread S) (b : Thread T) where
  pub to_own : (s : S) (r : T) → SameEvents a b s r → SameEvents (own a) (own b) s r
  to_own s r h = record {
    there = λ replies event loud f. comes_alike b b.child (or_itself b) (h.there replies event loud (comes_alike a (or_itself a) a.child f));
    back = λ replies event loud f. comes_alike a a.child (or_itself a) (h.back replies event loud (comes_alike b (or_itself b) b.child f));
  }

  pub from_own : (s : S) (r : T) → SameEvents (own a) (own b) s r → SameEvents a b s r
  from_own s r h = record {
    there = λ replies event loud f. comes_alike b (or_itself b) b.child (h.there replies event loud (comes_alike a a.child (or_itself a) f));
    back = λ replies event loud f. comes_alike a (or_itself a) a.child (h.back replies event loud (comes_alike b b.child (or_itself b) f));
  }

  -- of two programs: where threads with the same events start threads with a number that is not 0, these have the same events
  abbrev pub SameStarted : S → T → Type 0
  SameStarted main main' = (s : S) (r : T) (number func : ℕ) (arg : ℤ) → (number == 0) ≡ false → Descends a main s → Descends b main' r → SameEvents a b s r
      → a.next s ≡ Spawn func arg → b.next r ≡ Spawn func arg → SameEvents a b (a.child s number func arg) (b.child r number func arg)

  children_own : (main : S) (main' : T) → SameStarted main main' → SameChildren (own a) (own b) main main'
  children_own main main' h s r number func arg f g same e i = by_test (number == 0) refl where
    by_test : (z : Bool) → (number == 0) ≡ z → SameEvents (own a) (own b) (cond z s (a.child s number func arg)) (cond z r (b.child r number func arg))
    by_test true q = same
    by_test false q = to_own (a.child s number func arg) (b.child r number func arg)
        (h s r number func arg q (own_descends a main f) (own_descends b main' g) (from_own s r same) e i)

  -- so are all steps from the start
  pub runs_lift : (main : S) (main' : T) → SameEvents a b main main' → SameStarted main main' → (p : MemoryLayout) → p.limit ≤ THREAD_LIMIT
      → (memory : ℕ → ℕ) (input order : List ℕ) (v : World S)
      → Replays a p (first_world memory input main) order v → (threads : ℕ → Option (Alive T))
      × Replays b p (first_world memory input main') order (with_threads v threads)
  runs_lift main main' same kids p few memory input order v h =
      let l = starts_lift (own a) (own b) main main' p (children_own main main' kids) (to_own main main' same) few memory input order v
      (replays_alike a a.child (or_itself a) (child_own a) p order (first_world memory input main) v refl h) in
      (l.0, replays_alike b (or_itself b) b.child (own_child b) p order (first_world memory input main') (with_threads v l.0) refl l.1)
