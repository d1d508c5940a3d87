-- In a world to which an order replays each thread is in a state that threads come to.
use Rattle.std.proofs.Common.{ℕ, pos, zero, suc, ◌≡◌, ◌==◌, ◌<◌, ◌≤◌, ◌^◌, Bool, true, false, cond, refl, ap, sym, subst, List, [], ◌∷◌, Option, Some, None}
use Rattle.std.proofs.Common.{arith}
use Rattle.std.specs.Prelude.{nat_lt}
use Rattle.std.proofs.lemmas.Bool.{ltb-true}
use Rattle.std.proofs.lemmas.Option.{none-some}
use Rattle.tx_events.specs.declared.BlockKind.{BlockKind}
use Rattle.tx_events.specs.declared.BlockKind.TheVariants.{NoExcept, Commit, Cancel}
use Rattle.tx_events.specs.declared.End.{End}
use Rattle.tx_events.specs.declared.End.TheVariants.{Trapped}
use Rattle.tx_events.specs.declared.Trap.TheVariants.{BadAddress}
use Rattle.tx_events.specs.declared.TheConstants.{THREAD_LIMIT}
use Rattle.tx_events.specs.declared.Event.{Event}
use Rattle.tx_events.specs.declared.Event.TheVariants.{
  Silent,
  Load,
  Store,
  Out,
  Inp,
  Spawn,
  Join,
  BeginAtomic,
  EndAtomic,
  Raise,
  BeginSync,
  EndSync,
  Done,
  Stop,
}
use Rattle.tx_events.specs.declared.Reply.{Reply}
use Rattle.tx_events.specs.declared.Reply.TheVariants.{Nothing, Byte, Id}
use Rattle.tx_events.specs.Thread.{Thread, Lawful, Answers}
use Rattle.tx_events.specs.Memory.{update, MemoryLayout, can_access, word_of}
use Rattle.tx_events.specs.Alone.{Inner, inner_by, inner_load, inner_store, leave, raise, newest, BlockStep, Goes, Leaves, Halts, Never, Inside, at_start}
use Rattle.tx_events.specs.Alone.{goes_on, outcome}
use Rattle.tx_events.specs.World.{Alive, alive, World, Replays, EventStep, Joins, BlockEffect, target, byte_of, SilentSteps, none, one_more, first_world}
use Rattle.tx_events.specs.World.{only_first}
use Rattle.tx_events.proofs.WordLemmas.{read_fits, byte_int}

module _ {S : Type 0} (R : S → Type 0) (a : Thread S) (laws : Lawful S R a) (p : MemoryLayout) (small : p.limit ≤ THREAD_LIMIT) where
  abbrev pub AllReached : (ℕ → Option (Alive S)) → Type 0
  AllReached f = (u : ℕ) (s : Alive S) → f u ≡ Some s → R s.state

  pub silents_reached : {s r : S} → SilentSteps a s r → R s → R r
  silents_reached none h = h
  silents_reached (one_more {r = q} f e) h = laws.goes_on q Nothing (silents_reached f h) (subst (λ z. Answers z Nothing) (sym e) refl)

  after_reached : (s : S) (e : Event) → a.next s ≡ e → R s → (r : Reply) → Answers e r → R (a.after s r)
  after_reached s e at h r f = laws.goes_on s r h (subst (λ z. Answers z r) (sym at) f)

  -- what a step inside a block comes to
  abbrev OnStep : BlockStep S → Type 0
  OnStep (Goes i) = R i.state
  OnStep (Leaves s m) = R s
  OnStep (Halts e) = Unit {0}
  OnStep Never = Unit {0}

  either_step : (b : Bool) (i : Inner S) (e : End) → R i.state → OnStep (cond b (Goes i) (Halts e))
  either_step true i e h = h
  either_step false i e h = tt

  leave_reached : (i : Inner S) (m : ℕ → ℕ) (cs : List (ℕ → ℕ)) → R (a.after i.state Nothing) → OnStep (leave a i m cs)
  leave_reached i m [] h = tt
  leave_reached i m (c ∷ []) h = h
  leave_reached i m (c ∷ d ∷ cs) h = h

  raise_reached : (i : Inner S) (kind : BlockKind) (can : Bool) → R (a.after i.state Nothing) → OnStep (raise a i kind can)
  raise_reached i NoExcept can h = tt
  raise_reached i Commit can h = leave_reached i i.memory i.copies h
  raise_reached i Cancel true h = leave_reached i (newest i.copies i.memory) i.copies h
  raise_reached i Cancel false h = tt

  step_reached : (i : Inner S) (e : Event) → a.next i.state ≡ e → R i.state → OnStep (inner_by a p i e)
  step_reached i Silent at h = after_reached i.state Silent at h Nothing refl
  step_reached i (Load addr size vol) at h = either_step (can_access p addr size) (inner_load a i addr size) (Trapped BadAddress)
      (after_reached i.state (Load addr size vol) at h _ (read_fits addr size (i.memory (word_of addr))))
  step_reached i (Store addr size value vol) at h = either_step (can_access p addr size) (inner_store a i addr size value) (Trapped BadAddress)
      (after_reached i.state (Store addr size value vol) at h Nothing refl)
  step_reached i (BeginAtomic kind) at h = after_reached i.state (BeginAtomic kind) at h Nothing refl
  step_reached i EndAtomic at h = leave_reached i i.memory i.copies (after_reached i.state EndAtomic at h Nothing refl)
  step_reached i (Raise kind can) at h = raise_reached i kind can (after_reached i.state (Raise kind can) at h Nothing refl)
  step_reached i BeginSync at h = after_reached i.state BeginSync at h Nothing refl
  step_reached i EndSync at h = after_reached i.state EndSync at h Nothing refl
  step_reached i (Stop e) at h = tt
  step_reached i (Out c) at h = tt
  step_reached i Inp at h = tt
  step_reached i (Spawn f x) at h = tt
  step_reached i (Join id) at h = tt
  step_reached i Done at h = tt

  inside_reached : {i j : Inner S} → Inside a p i j → R i.state → R j.state
  inside_reached at_start h = h
  inside_reached (goes_on {j = q} f e) h = subst OnStep e (step_reached q (a.next q.state) refl (inside_reached f h))

  updated : (f : ℕ → Option (Alive S)) (t : ℕ) (s : Alive S) → R s.state → AllReached f → AllReached (update f t (Some s))
  updated f t s r h u z e = by_thread (u == t) e
    where
      one : (x y : Alive S) → Some x ≡ Some y → x ≡ y
      one x y i = cc

      by_thread : (b : Bool) → cond b (Some s) (f u) ≡ Some z → R z.state
      by_thread true i = subst (λ y. R y.state) (one s z i) r
      by_thread false i = h u z i

  either_world : (b : Bool) (x y v : World S) → v ≡ cond b x y → (b ≡ true → AllReached x.threads) → AllReached y.threads → AllReached v.threads
  either_world true x y v e f g = subst (λ z. AllReached z.threads) (sym e) (f refl)
  either_world false x y v e f g = subst (λ z. AllReached z.threads) (sym e) g

  module _ (t : ℕ) (w v : World S) (all : AllReached w.threads) where
    moved : (s : S) (ended : Bool) → R s → v.threads ≡ update w.threads t (Some (record { state = s; ended = ended })) → AllReached v.threads
    moved s ended r e = subst AllReached (sym e) (updated w.threads t (record { state = s; ended = ended }) r all)

    block_reached : (y : BlockStep S) → OnStep y → BlockEffect t w y v → AllReached v.threads
    block_reached (Goes i) h e = absurd e
    block_reached Never h e = absurd e
    block_reached (Leaves s m) h e = moved s false h (ap (λ z. z.threads) e)
    block_reached (Halts end) h e = subst AllReached (sym (ap (λ z. z.threads) e)) all

    join_reached : (s : S) → R s → (o : Option (Alive S)) → Joins t w s o v → AllReached v.threads
    join_reached s r None e = subst AllReached (sym (ap (λ z. z.threads) e)) all
    join_reached s r (Some u) e = moved s false r (ap (λ z. z.threads) e.1)

    event_reached : (s : S) (e : Event) → a.next s ≡ e → R s → EventStep a p t w s e v → AllReached v.threads
    event_reached s Silent at h d = absurd d
    event_reached s EndAtomic at h d = absurd d
    event_reached s (Raise kind can) at h d = absurd d
    event_reached s (Load addr size vol) at h d = either_world (can_access p addr size) _ _ v d
        (λ i. updated w.threads t _ (after_reached s (Load addr size vol) at h _ (read_fits addr size (w.memory (word_of addr)))) all) all
    event_reached s (Store addr size value vol) at h d = either_world (can_access p addr size) _ _ v d
        (λ i. updated w.threads t _ (after_reached s (Store addr size value vol) at h Nothing refl) all) all
    event_reached s (Out c) at h d = moved (a.after s Nothing) false (after_reached s (Out c) at h Nothing refl) (ap (λ z. z.threads) d)
    event_reached s Inp at h d = moved (a.after s (Byte (byte_of w.input))) false
        (after_reached s Inp at h (Byte (byte_of w.input)) (byte_int w.input)) (ap (λ z. z.threads) d)
    event_reached s (Spawn f x) at h d = either_world (nat_lt w.started p.limit) _ _ v d (λ i.
        let n = w.started in
        let below = ltb-true n p.limit i in
        let int : n < 2 ^ 31 = omega (arith, below, small) in
        updated (update w.threads n (alive (a.child s n f x))) t _ (after_reached s (Spawn f x) at h (Id (pos n)) int)
        (updated w.threads n _ (laws.starts s n f x h at) all)) all
    event_reached s (Join id) at h d = join_reached (a.after s Nothing) (after_reached s (Join id) at h Nothing refl) (target t id w.threads) d
    event_reached s BeginSync at h d = moved (a.after s Nothing) false (after_reached s BeginSync at h Nothing refl) (ap (λ z. z.threads) d.1)
    event_reached s EndSync at h d = moved (a.after s Nothing) false (after_reached s EndSync at h Nothing refl) (ap (λ z. z.threads) d)
    event_reached s Done at h d = moved (a.after s Nothing) true (after_reached s Done at h Nothing refl) (ap (λ z. z.threads) d)
    event_reached s (Stop e) at h d = subst AllReached (sym (ap (λ z. z.threads) d)) all
    event_reached s (BeginAtomic kind) at h d =
        let last = inside_reached d.1.run (after_reached s (BeginAtomic kind) at h Nothing refl) in
        block_reached (outcome d.1) (step_reached d.1.last (a.next d.1.last.state) refl last) d.2

  pub replays_reached : (order : List ℕ) (w v : World S) → AllReached w.threads → Replays a p w order v → AllReached v.threads
  replays_reached [] w v all h = subst AllReached (sym (ap (λ z. z.threads) h)) all
  replays_reached (t ∷ order) w v all h =
      let s = h.1 in
      let from = all t (record { state = s.from; ended = false }) s.is in
      replays_reached order h.0 v (event_reached t w h.0 all s.before (a.next s.before) refl (silents_reached s.silents from) s.does) h.2

  pub start_reached : (memory : ℕ → ℕ) (input : List ℕ) (main : S) → R main → AllReached (first_world memory input main).threads
  start_reached memory input main h u s e = by_thread u e
    where
      one : (x y : Alive S) → Some x ≡ Some y → x ≡ y
      one x y i = cc

      by_thread : (u : ℕ) → only_first main u ≡ Some s → R s.state
      by_thread zero i = subst (λ y. R y.state) (one (record { state = main; ended = false }) s i) h
      by_thread (suc u) i = absurd (none-some s i)
