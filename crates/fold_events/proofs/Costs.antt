-- Where a thread leaves out silent steps of another one, a replay costs no more.
use Rattle.std.proofs.Common.{ℕ, ℤ, pos, negsuc, zero, suc, ◌≡◌, ◌==◌, ◌+◌, ◌≤◌, Bool, true, false, cond, refl, ap, sym, ◌∙◌, subst, List, [], ◌∷◌, Option}
use Rattle.std.proofs.Common.{Some, None, arith}
use Rattle.std.specs.Prelude.{◌||◌, nat_lt}
use Rattle.std.proofs.lemmas.Bool.{true≢false}
use Rattle.tx_events.specs.declared.End.{End}
use Rattle.tx_events.specs.declared.End.TheVariants.{Trapped}
use Rattle.tx_events.specs.declared.Trap.TheVariants.{BadAddress, TooManyThreads, BadJoin}
use Rattle.tx_events.specs.declared.BlockKind.{BlockKind}
use Rattle.tx_events.specs.declared.BlockKind.TheVariants.{NoExcept, Commit, Cancel}
use Rattle.tx_events.specs.declared.Event.{Event}
use Rattle.tx_events.specs.declared.Event.TheVariants.{Silent, Load, Store, Out, Inp, Spawn, Join, BeginAtomic, EndAtomic, Raise, BeginSync, EndSync, Done}
use Rattle.tx_events.specs.declared.Event.TheVariants.{Stop}
use Rattle.tx_events.specs.declared.Reply.{Reply}
use Rattle.tx_events.specs.declared.Reply.TheVariants.{Nothing, Loaded, Byte, Id}
use Rattle.tx_events.specs.Thread.{Thread, is_silent}
use Rattle.tx_events.specs.Memory.{update, MemoryLayout, can_access, load, store}
use Rattle.tx_events.specs.Alone.{Inner, inner_load, inner_store, inner_by, leave, raise, newest, begin, BlockStep, Goes, Leaves, Halts, Never, Inside}
use Rattle.tx_events.specs.Alone.{at_start, goes_on, is_over}
use Rattle.tx_events.specs.World.{Alive, alive, World, Step, Replays, EventStep, BlockEffect, Joins, target, goes, ends, byte_of, SilentSteps, none, one_more}
use Rattle.tx_events.specs.World.{only_first}
use Rattle.tx_events.specs.Same.{with_threads}
use Rattle.tx_events.specs.Simulation.{Path, here, step}
use Rattle.src_mean.specs.Cost.{silent_cost, inside_cost, event_cost, step_cost, cost}
use Rattle.fold_events.specs.Lagging.{Lags}

module _ {S T : Type 0} (a : Thread S) (b : Thread T) (shown : S → T) (next : (s : S) → b.next (shown s) ≡ a.next s)
    (on : (s : S) (reply : Reply) → Lags a shown (a.after s reply) (b.after (shown s) reply))
    (kid : (s : S) (number func : ℕ) (arg : ℤ) → Lags a shown (a.child s number func arg) (b.child (shown s) number func arg)) where
  abbrev pub Same : S → T → Type 0
  Same s r = Lags a shown s r

  on_from : (s : S) (r : T) → r ≡ shown s → (reply : Reply) → Same (a.after s reply) (b.after r reply)
  on_from s r e reply = subst (λ z. Same (a.after s reply) (b.after z reply)) (sym e) (on s reply)

  seen : (s : S) (r : T) → r ≡ shown s → b.next r ≡ a.next s
  seen s r e = ap b.next e ∙ next s

  -- at an event the states stand for each other
  stands : {n : ℕ} {s q : S} → Path a n s q → is_silent (a.next s) ≡ false → q ≡ s
  stands here l = refl
  stands (step e f) l = absurd (true≢false (sym (ap is_silent e) ∙ l))

  shows : (s : S) (r : T) → Same s r → is_silent (a.next s) ≡ false → r ≡ shown s
  shows s r h l = h.is ∙ ap shown (stands h.path l)

  -- a silent step

  record Moved (s : S) (r : T) : Type 0 where
    to : T
    silents : SilentSteps b r to
    short : silent_cost silents ≤ 1
    same : Same (a.after s Nothing) to

  moved_on : {n : ℕ} {s q : S} {r : T} → Path a n s q → r ≡ shown q → a.next s ≡ Silent → Moved s r
  moved_on {s} {r = r} here e i = record { to = b.after r Nothing; silents = one_more none (seen s r e ∙ i); short = omega arith; same = on_from s r e Nothing }
  moved_on {n} {s} {q} {r} (step f g) e i = record { to = r; silents = none; short = omega arith; same = record { many = _; to = q; path = g; is = e } }

  moved : (s : S) (r : T) → Same s r → a.next s ≡ Silent → Moved s r
  moved s r h i = moved_on h.path h.is i

  appended : {r q t : T} (f : SilentSteps b r q) (g : SilentSteps b q t) → (k : SilentSteps b r t) × (silent_cost k ≡ silent_cost f + silent_cost g)
  appended f none = (f, plus_zero (silent_cost f))
    where
      plus_zero : (n : ℕ) → n ≡ n + 0
      plus_zero n = omega arith
  appended f (one_more g e) = let k = appended f g in (one_more k.0 e, one_longer (silent_cost k.0) (silent_cost f) (silent_cost g) k.1)
    where
      one_longer : (k m n : ℕ) → k ≡ m + n → k + 1 ≡ m + (n + 1)
      one_longer k m n e = omega (arith, e)

  record Arrived (q : S) (r : T) (n : ℕ) : Type 0 where
    to : T
    silents : SilentSteps b r to
    short : silent_cost silents ≤ n
    same : Same q to

  arrived : {s q : S} {r : T} → Same s r → (f : SilentSteps a s q) → Arrived q r (silent_cost f)
  arrived {r = r} h none = record { to = r; silents = none; short = omega arith; same = h }
  arrived h (one_more {r = q} f e) =
      let m = arrived h f in
      let n = moved q m.to m.same e in
      let k = appended m.silents n.silents in
      record {
        to = n.to;
        silents = k.0;
        short = both (silent_cost k.0) (silent_cost m.silents) (silent_cost n.silents) (silent_cost f) k.1 m.short n.short;
        same = n.same;
      }
    where
      both : (k x y n : ℕ) → k ≡ x + y → x ≤ n → y ≤ 1 → k ≤ n + 1
      both k x y n e f g = omega (arith, e, f, g)

  -- Blocks

  abbrev with_state : Inner S → T → Inner T
  with_state i r = record { state = r; memory = i.memory; accessed = i.accessed; stored = i.stored; copies = i.copies }

  abbrev SameTook : BlockStep S → BlockStep T → Type 0
  SameTook (Goes i) y = (r : T) × (y ≡ Goes (with_state i r)) × Same i.state r
  SameTook (Leaves s m) y = (r : T) × (y ≡ Leaves r m) × Same s r
  SameTook (Halts e) y = y ≡ Halts e
  SameTook Never y = Unit {0}

  same_either : (c : Bool) (i : Inner S) (r : T) (e : End) → Same i.state r → SameTook (cond c (Goes i) (Halts e)) (cond c (Goes (with_state i r)) (Halts e))
  same_either true i r e h = (r, refl, h)
  same_either false i r e h = refl

  same_leave : (i : Inner S) (r : T) (m : ℕ → ℕ) (cs : List (ℕ → ℕ)) → Same (a.after i.state Nothing) (b.after r Nothing)
      → SameTook (leave a i m cs) (leave b (with_state i r) m cs)
  same_leave i r m [] h = tt
  same_leave i r m (c ∷ []) h = (b.after r Nothing, refl, h)
  same_leave i r m (c ∷ d ∷ cs) h = (b.after r Nothing, refl, h)

  same_raise : (i : Inner S) (r : T) (kind : BlockKind) (can : Bool) → Same (a.after i.state Nothing) (b.after r Nothing)
      → SameTook (raise a i kind can) (raise b (with_state i r) kind can)
  same_raise i r NoExcept can h = refl
  same_raise i r Commit can h = same_leave i r i.memory i.copies h
  same_raise i r Cancel true h = same_leave i r (newest i.copies i.memory) i.copies h
  same_raise i r Cancel false h = refl

  module _ (p : MemoryLayout) where
    same_took : (i : Inner S) (r : T) (e : Event) → is_silent e ≡ false → ((x : Reply) → Same (a.after i.state x) (b.after r x))
        → SameTook (inner_by a p i e) (inner_by b p (with_state i r) e)
    same_took i r Silent loud h = absurd (true≢false loud)
    same_took i r (Load addr size vol) loud h = same_either (can_access p addr size) (inner_load a i addr size) (b.after r (Loaded (load i.memory addr size)))
        (Trapped BadAddress) (h (Loaded (load i.memory addr size)))
    same_took i r (Store addr size value vol) loud h =
        same_either (can_access p addr size) (inner_store a i addr size value) (b.after r Nothing) (Trapped BadAddress) (h Nothing)
    same_took i r (BeginAtomic kind) loud h = (b.after r Nothing, refl, h Nothing)
    same_took i r EndAtomic loud h = same_leave i r i.memory i.copies (h Nothing)
    same_took i r (Raise kind can) loud h = same_raise i r kind can (h Nothing)
    same_took i r BeginSync loud h = (b.after r Nothing, refl, h Nothing)
    same_took i r EndSync loud h = (b.after r Nothing, refl, h Nothing)
    same_took i r (Stop e) loud h = refl
    same_took i r (Out c) loud h = tt
    same_took i r Inp loud h = tt
    same_took i r (Spawn g x) loud h = tt
    same_took i r (Join id) loud h = tt
    same_took i r Done loud h = tt

    inside_silents : {j : Inner T} (i : Inner S) {r q : T} (f : Inside b p j (with_state i r)) (g : SilentSteps b r q) → (k : Inside b p j (with_state i q))
        × (inside_cost k ≡ inside_cost f + silent_cost g)
    inside_silents i f none = (f, plus_zero (inside_cost f))
      where
        plus_zero : (n : ℕ) → n ≡ n + 0
        plus_zero n = omega arith
    inside_silents i f (one_more {r = q} g e) = let k = inside_silents i f g in
        (goes_on k.0 (ap (inner_by b p (with_state i q)) e), one_longer (inside_cost k.0) (inside_cost f) (silent_cost g) k.1)
      where
        one_longer : (k m n : ℕ) → k ≡ m + n → k + 1 ≡ m + (n + 1)
        one_longer k m n e = omega (arith, e)

    record Ran (r : T) (m : ℕ → ℕ) (i : Inner S) (n : ℕ) : Type 0 where
      to : T
      run : Inside b p (begin r m) (with_state i to)
      short : inside_cost run ≤ n
      same : Same i.state to

    ran_silent : (r : T) (m : ℕ → ℕ) (j : Inner S) (n : ℕ) → Ran r m j n → a.next j.state ≡ Silent
        → Ran r m (record j { state = a.after j.state Nothing }) (n + 1)
    ran_silent r m j n h e =
        let g = moved j.state h.to h.same e in
        let k = inside_silents j h.run g.silents in
        record { to = g.to; run = k.0; short = both (inside_cost k.0) (inside_cost h.run) (silent_cost g.silents) n k.1 h.short g.short; same = g.same }
      where
        both : (k x y n : ℕ) → k ≡ x + y → x ≤ n → y ≤ 1 → k ≤ n + 1
        both k x y n e f g = omega (arith, e, f, g)

    ran_took : (r : T) (m : ℕ → ℕ) (j : Inner S) (k : Inner S) (n : ℕ) (h : Ran r m j n) (y : BlockStep S) → y ≡ Goes k
        → SameTook y (inner_by b p (with_state j h.to) (b.next h.to)) → Ran r m k (n + 1)
    ran_took r m j k n h (Goes i) e t =
        let same : i ≡ k = cc in
        subst (λ z. Ran r m z (n + 1)) same (record { to = t.0; run = goes_on h.run t.1; short = one_longer (inside_cost h.run) n h.short; same = t.2 })
      where
        one_longer : (x n : ℕ) → x ≤ n → x + 1 ≤ n + 1
        one_longer x n e = omega (arith, e)
    ran_took r m j k n h (Leaves s x) e t = absurd cc
    ran_took r m j k n h (Halts x) e t = absurd cc
    ran_took r m j k n h Never e t = absurd cc

    ran_loud : (r : T) (m : ℕ → ℕ) (j k : Inner S) (n : ℕ) (h : Ran r m j n) (v : Event) → a.next j.state ≡ v → is_silent v ≡ false → inner_by a p j v ≡ Goes k
        → Ran r m k (n + 1)
    ran_loud r m j k n h v i loud e =
        let same = shows j.state h.to h.same (ap is_silent i ∙ loud) in
        ran_took r m j k n h (inner_by a p j v) e (subst (λ z. SameTook (inner_by a p j v) (inner_by b p (with_state j h.to) z))
        (sym (seen j.state h.to same ∙ i)) (same_took j h.to v loud (on_from j.state h.to same)))

    ran_event : (r : T) (m : ℕ → ℕ) (j k : Inner S) (n : ℕ) (h : Ran r m j n) (v : Event) → a.next j.state ≡ v → inner_by a p j v ≡ Goes k → Ran r m k (n + 1)
    ran_event r m j k n h Silent i e = let same : record j { state = a.after j.state Nothing } ≡ k = cc in
        subst (λ z. Ran r m z (n + 1)) same (ran_silent r m j n h i)
    ran_event r m j k n h (Load addr size vol) i e = ran_loud r m j k n h (Load addr size vol) i refl e
    ran_event r m j k n h (Store addr size value vol) i e = ran_loud r m j k n h (Store addr size value vol) i refl e
    ran_event r m j k n h (BeginAtomic kind) i e = ran_loud r m j k n h (BeginAtomic kind) i refl e
    ran_event r m j k n h EndAtomic i e = ran_loud r m j k n h EndAtomic i refl e
    ran_event r m j k n h (Raise kind can) i e = ran_loud r m j k n h (Raise kind can) i refl e
    ran_event r m j k n h BeginSync i e = ran_loud r m j k n h BeginSync i refl e
    ran_event r m j k n h EndSync i e = ran_loud r m j k n h EndSync i refl e
    ran_event r m j k n h (Stop x) i e = absurd cc
    ran_event r m j k n h (Out c) i e = absurd cc
    ran_event r m j k n h Inp i e = absurd cc
    ran_event r m j k n h (Spawn g x) i e = absurd cc
    ran_event r m j k n h (Join id) i e = absurd cc
    ran_event r m j k n h Done i e = absurd cc

    ran : {s : S} (r : T) (m : ℕ → ℕ) {i : Inner S} → Same s r → (f : Inside a p (begin s m) i) → Ran r m i (inside_cost f)
    ran r m h at_start = record { to = r; run = at_start; short = omega arith; same = h }
    ran r m h (goes_on {j} {k} f e) = ran_event r m j k (inside_cost f) (ran r m h f) (a.next j.state) refl e

    -- Worlds: the threads of the one kind and of the other

    abbrev pub SameThread : Option (Alive S) → Option (Alive T) → Type 0
    SameThread None None = Unit {0}
    SameThread None (Some y) = ⊥
    SameThread (Some x) None = ⊥
    SameThread (Some x) (Some y) = (y.ended ≡ x.ended) × Same x.state y.state

    abbrev pub Pairs : (ℕ → Option (Alive S)) → (ℕ → Option (Alive T)) → Type 0
    Pairs us vs = (u : ℕ) → SameThread (us u) (vs u)

    pairs_update : (us : ℕ → Option (Alive S)) (vs : ℕ → Option (Alive T)) (t : ℕ) (x : Alive S) (y : Alive T) → Pairs us vs → y.ended ≡ x.ended
        → Same x.state y.state → Pairs (update us t (Some x)) (update vs t (Some y))
    pairs_update us vs t x y h e s u = elim (u == t) as (λ c. SameThread (cond c (Some x) (us u)) (cond c (Some y) (vs u))) [ true ↦ (e, s) | false ↦ h u ]

    -- what thread t does there, and what it costs at most
    record Does (t : ℕ) (w : World S) (vs : ℕ → Option (Alive T)) (r : T) (e : Event) (v : World S) (n : ℕ) : Type 0 where
      threads : ℕ → Option (Alive T)
      does : EventStep b p t (with_threads w vs) r e (with_threads v threads)
      pairs : Pairs v.threads threads
      short : event_cost b p t (with_threads w vs) r e (with_threads v threads) does ≤ n

    -- the same of an event that leads to one world
    record Leads (w : World S) (x : World T) : Type 0 where
      threads : ℕ → Option (Alive T)
      is : with_threads w threads ≡ x
      pairs : Pairs w.threads threads

    either_leads : (c : Bool) (x y : World S) (X Y : World T) → Leads x X → Leads y Y → Leads (cond c x y) (cond c X Y)
    either_leads true x y X Y f g = f
    either_leads false x y X Y f g = g

    led : (v x : World S) (X : World T) → v ≡ x → Leads x X → Leads v X
    led v x X e f = subst (λ z. Leads z X) (sym e) f

    record Joined (t : ℕ) (w : World S) (vs : ℕ → Option (Alive T)) (r : T) (q : Option (Alive T)) (v : World S) : Type 0 where
      threads : ℕ → Option (Alive T)
      is : Joins t (with_threads w vs) r q (with_threads v threads)
      pairs : Pairs v.threads threads

    joined : (t : ℕ) (w : World S) (vs : ℕ → Option (Alive T)) (s : S) (r : T) (o : Option (Alive S)) (q : Option (Alive T)) (v : World S) → SameThread o q
        → Pairs w.threads vs → Same s r → Joins t w s o v → Joined t w vs r q v
    joined t w vs s r None None v h ps same is = let l =
        led v (ends w (Trapped BadJoin)) (ends (with_threads w vs) (Trapped BadJoin)) is (record { threads = vs; is = refl; pairs = ps }) in
        record { threads = l.threads; is = l.is; pairs = l.pairs }
    joined t w vs s r None (Some y) v h ps same is = absurd h
    joined t w vs s r (Some x) None v h ps same is = absurd h
    joined t w vs s r (Some x) (Some y) v h ps same is =
        let l = led v (goes t w s) (goes t (with_threads w vs) r) (is.1)
        (record {
          threads = update vs t (alive r);
          is = refl;
          pairs =
              pairs_update w.threads vs t (record { state = s; ended = false }) (record { state = r; ended = false }) ps refl same;
        }) in
        record { threads = l.threads; is = (h.0 ∙ is.0, l.is); pairs = l.pairs }

    same_target : (t : ℕ) (id : ℤ) (us : ℕ → Option (Alive S)) (vs : ℕ → Option (Alive T)) → Pairs us vs → SameThread (target t id us) (target t id vs)
    same_target t (pos n) us vs h = elim ((n == 0) || (n == t)) as (λ c. SameThread (cond c None (us n)) (cond c None (vs n))) [ true ↦ tt | false ↦ h n ]
    same_target t (negsuc n) us vs h = tt

    record Landed (t : ℕ) (w : World S) (vs : ℕ → Option (Alive T)) (z : BlockStep T) (v : World S) : Type 0 where
      threads : ℕ → Option (Alive T)
      is : BlockEffect t (with_threads w vs) z (with_threads v threads)
      pairs : Pairs v.threads threads

    landed : (t : ℕ) (w : World S) (vs : ℕ → Option (Alive T)) (y : BlockStep S) (z : BlockStep T) (v : World S) → Pairs w.threads vs → SameTook y z
        → BlockEffect t w y v → Landed t w vs z v
    landed t w vs (Goes i) z v ps h is = absurd is
    landed t w vs Never z v ps h is = absurd is
    landed t w vs (Halts e) z v ps h is =
        let l = led v (ends w e) (ends (with_threads w vs) e) is (record { threads = vs; is = refl; pairs = ps }) in
        subst (λ q. Landed t w vs q v) (sym h) (record { threads = l.threads; is = l.is; pairs = l.pairs })
    landed t w vs (Leaves s m) z v ps h is =
        let l = led v (record w { memory = m; threads = update w.threads t (alive s) })
        (record (with_threads w vs) { memory = m; threads = update vs t (alive h.0) }) is
        (record {
          threads = update vs t (alive h.0);
          is = refl;
          pairs =
              pairs_update w.threads vs t (record { state = s; ended = false }) (record { state = h.0; ended = false }) ps refl h.2;
        }) in
        subst (λ q. Landed t w vs q v) (sym h.1) (record { threads = l.threads; is = l.is; pairs = l.pairs })

    is_landed : (t : ℕ) (w : World T) (y : BlockStep T) (v : World T) → BlockEffect t w y v → is_over y ≡ true
    is_landed t w (Goes i) v h = absurd h
    is_landed t w Never v h = absurd h
    is_landed t w (Leaves s m) v h = refl
    is_landed t w (Halts e) v h = refl

    loud_last : (e : Event) (t : ℕ) (w : World S) (i : Inner S) (v : World S) → BlockEffect t w (inner_by a p i e) v → is_silent e ≡ false
    loud_last Silent t w i v h = absurd h
    loud_last (Load addr size vol) t w i v h = refl
    loud_last (Store addr size value vol) t w i v h = refl
    loud_last (BeginAtomic kind) t w i v h = refl
    loud_last EndAtomic t w i v h = refl
    loud_last (Raise kind can) t w i v h = refl
    loud_last BeginSync t w i v h = refl
    loud_last EndSync t w i v h = refl
    loud_last (Stop e) t w i v h = refl
    loud_last (Out c) t w i v h = refl
    loud_last Inp t w i v h = refl
    loud_last (Spawn g x) t w i v h = refl
    loud_last (Join id) t w i v h = refl
    loud_last Done t w i v h = refl

    loud_does : (t : ℕ) (w : World S) (s : S) (e : Event) (v : World S) → EventStep a p t w s e v → is_silent e ≡ false
    loud_does t w s Silent v d = absurd d
    loud_does t w s EndAtomic v d = refl
    loud_does t w s (Raise kind can) v d = refl
    loud_does t w s (BeginAtomic kind) v d = refl
    loud_does t w s (Load addr size vol) v d = refl
    loud_does t w s (Store addr size value vol) v d = refl
    loud_does t w s (Out c) v d = refl
    loud_does t w s Inp v d = refl
    loud_does t w s (Spawn g x) v d = refl
    loud_does t w s (Join id) v d = refl
    loud_does t w s BeginSync v d = refl
    loud_does t w s EndSync v d = refl
    loud_does t w s Done v d = refl
    loud_does t w s (Stop e) v d = refl

    module _ (t : ℕ) (w : World S) (vs : ℕ → Option (Alive T)) (ps : Pairs w.threads vs) (s : S) (r : T) (same : r ≡ shown s) where
      -- the thread goes on with this state
      one : (q : S) (u : T) (c : Bool) → Same q u → Pairs (update w.threads t (Some (record { state = q; ended = c })))
          (update vs t (Some (record { state = u; ended = c })))
      one q u c h = pairs_update w.threads vs t (record { state = q; ended = c }) (record { state = u; ended = c }) ps refl h

      one_on : (reply : Reply) (c : Bool) → Pairs (update w.threads t (Some (record { state = a.after s reply; ended = c })))
          (update vs t (Some (record { state = b.after r reply; ended = c })))
      one_on reply c = one (a.after s reply) (b.after r reply) c (on_from s r same reply)

      kid_from : (number func : ℕ) (arg : ℤ) → Same (a.child s number func arg) (b.child r number func arg)
      kid_from number func arg = subst (λ z. Same (a.child s number func arg) (b.child z number func arg)) (sym same) (kid s number func arg)

      block : (kind : BlockKind) (v : World S) (d : EventStep a p t w s (BeginAtomic kind) v)
          → Does t w vs r (BeginAtomic kind) v (event_cost a p t w s (BeginAtomic kind) v d)
      block kind v d =
          let i = d.1.last in
          let e = a.next i.state in
          let h = ran (b.after r Nothing) w.memory (on_from s r same Nothing) d.1.run in
          let loud = loud_last e t w i v d.2 in
          let q = shows i.state h.to h.same loud in
          let took = subst (λ z. SameTook (inner_by a p i e) (inner_by b p (with_state i h.to) z)) (sym (seen i.state h.to q))
          (same_took i h.to e loud (on_from i.state h.to q)) in
          let last = landed t w vs (inner_by a p i e) (inner_by b p (with_state i h.to) (b.next h.to)) v ps took d.2 in
          record {
            threads = last.threads;
            does = (
              d.0,
              record {
                last = with_state i h.to;
                run = h.run;
                over = is_landed t (with_threads w vs) (inner_by b p (with_state i h.to) (b.next h.to))
                    (with_threads v last.threads) last.is;
              },
              last.is,
            );
            pairs = last.pairs;
            short = longer (inside_cost h.run) (inside_cost d.1.run) h.short;
          }
        where
          longer : (m n : ℕ) → m ≤ n → 1 + m + 1 ≤ 1 + n + 1
          longer m n e = omega (arith, e)

      once : 1 ≤ 1
      once = omega arith

      does_event : (e : Event) (v : World S) (d : EventStep a p t w s e v) → Does t w vs r e v (event_cost a p t w s e v d)
      does_event Silent v d = absurd d
      does_event EndAtomic v d = absurd d
      does_event (Raise kind can) v d = absurd d
      does_event (BeginAtomic kind) v d = block kind v d
      does_event (Load addr size vol) v d =
          let x = Loaded (load w.memory addr size) in
          let l = led v (cond (can_access p addr size) (goes t w (a.after s x)) (ends w (Trapped BadAddress)))
          (cond (can_access p addr size) (goes t (with_threads w vs) (b.after r x)) (ends (with_threads w vs) (Trapped BadAddress))) d
          (either_leads (can_access p addr size) (goes t w (a.after s x)) (ends w (Trapped BadAddress)) (goes t (with_threads w vs) (b.after r x))
          (ends (with_threads w vs) (Trapped BadAddress))
          (record { threads = update vs t (alive (b.after r x)); is = refl; pairs = one_on x false }) (record { threads = vs; is = refl; pairs = ps })) in
          record { threads = l.threads; does = l.is; pairs = l.pairs; short = once }
      does_event (Store addr size value vol) v d =
          let m = store w.memory addr size value in
          let x = record w { memory = m; threads = update w.threads t (alive (a.after s Nothing)) } in
          let y = record (with_threads w vs) { memory = m; threads = update vs t (alive (b.after r Nothing)) } in
          let l = led v (cond (can_access p addr size) x (ends w (Trapped BadAddress)))
          (cond (can_access p addr size) y (ends (with_threads w vs) (Trapped BadAddress))) d
          (either_leads (can_access p addr size) x (ends w (Trapped BadAddress)) y (ends (with_threads w vs) (Trapped BadAddress))
          (record { threads = update vs t (alive (b.after r Nothing)); is = refl; pairs = one_on Nothing false })
          (record { threads = vs; is = refl; pairs = ps })) in
          record { threads = l.threads; does = l.is; pairs = l.pairs; short = once }
      does_event (Out c) v d =
          let l = led v _ _ d (record { threads = update vs t (alive (b.after r Nothing)); is = refl; pairs = one_on Nothing false }) in
          record { threads = l.threads; does = l.is; pairs = l.pairs; short = once }
      does_event Inp v d =
          let l = led v _ _ d (record {
            threads = update vs t (alive (b.after r (Byte (byte_of w.input))));
            is = refl;
            pairs = one_on
                (Byte (byte_of w.input)) false;
          }) in
          record { threads = l.threads; does = l.is; pairs = l.pairs; short = once }
      does_event (Spawn g x) v d =
          let n = w.started in
          let id = Id (pos n) in
          let y = record w { started = n + 1; threads = update (update w.threads n (alive (a.child s n g x))) t (alive (a.after s id)) } in
          let z = record (with_threads w vs) { started = n + 1; threads = update (update vs n (alive (b.child r n g x))) t (alive (b.after r id)) } in
          let l = led v (cond (nat_lt n p.limit) y (ends w (Trapped TooManyThreads)))
          (cond (nat_lt n p.limit) z (ends (with_threads w vs) (Trapped TooManyThreads))) d
          (either_leads (nat_lt n p.limit) y (ends w (Trapped TooManyThreads)) z (ends (with_threads w vs) (Trapped TooManyThreads))
          (record {
            threads = update (update vs n (alive (b.child r n g x))) t (alive (b.after r id));
            is = refl;
            pairs = pairs_update (update w.threads n (alive (a.child s n g x))) (update vs n (alive (b.child r n g x))) t
                (record { state = a.after s id; ended = false }) (record { state = b.after r id; ended = false })
                (pairs_update w.threads vs n (record { state = a.child s n g x; ended = false }) (record { state = b.child r n g x; ended = false }) ps refl
                (kid_from n g x)) refl (on_from s r same id);
          }) (record { threads = vs; is = refl; pairs = ps })) in
          record { threads = l.threads; does = l.is; pairs = l.pairs; short = once }
      does_event (Join id) v d =
          let l = joined t w vs (a.after s Nothing) (b.after r Nothing) (target t id w.threads) (target t id vs) v (same_target t id w.threads vs ps) ps
          (on_from s r same Nothing) d in
          record { threads = l.threads; does = l.is; pairs = l.pairs; short = once }
      does_event BeginSync v d =
          let l = led v _ _ d.1 (record { threads = update vs t (alive (b.after r Nothing)); is = refl; pairs = one_on Nothing false }) in
          record { threads = l.threads; does = (d.0, l.is); pairs = l.pairs; short = once }
      does_event EndSync v d =
          let l = led v _ _ d (record { threads = update vs t (alive (b.after r Nothing)); is = refl; pairs = one_on Nothing false }) in
          record { threads = l.threads; does = l.is; pairs = l.pairs; short = once }
      does_event Done v d =
          let l = led v _ _ d (record {
            threads = update vs t (Some (record { state = b.after r Nothing; ended = true }));
            is = refl;
            pairs =
                one_on Nothing true;
          }) in
          record { threads = l.threads; does = l.is; pairs = l.pairs; short = once }
      does_event (Stop e) v d =
          let l = led v (ends w e) (ends (with_threads w vs) e) d (record { threads = vs; is = refl; pairs = ps }) in
          record { threads = l.threads; does = l.is; pairs = l.pairs; short = once }

    partner : (o : Option (Alive S)) (q : Option (Alive T)) → SameThread o q → (s : S) → o ≡ alive s → (r : T) × (q ≡ alive r) × Same s r
    partner None None h s e = absurd (cc)
    partner None (Some y) h s e = absurd h
    partner (Some x) None h s e = absurd h
    partner (Some x) (Some y) h s e =
        let i : x ≡ record { state = s; ended = false } = cc in
        (y.state, ap (λ c. Some (record { state = y.state; ended = c })) (h.0 ∙ ap (λ z. z.ended) i), subst (λ z. Same z y.state) (ap (λ z. z.state) i) h.1)

    record Stepped (t : ℕ) (w : World S) (vs : ℕ → Option (Alive T)) (v : World S) (n : ℕ) : Type 0 where
      threads : ℕ → Option (Alive T)
      steps : Step b p t (with_threads w vs) (with_threads v threads)
      pairs : Pairs v.threads threads
      short : step_cost b p t (with_threads w vs) (with_threads v threads) steps ≤ n

    stepped : (t : ℕ) (w : World S) (vs : ℕ → Option (Alive T)) → Pairs w.threads vs → (v : World S) (d : Step a p t w v)
        → Stepped t w vs v (step_cost a p t w v d)
    stepped t w vs ps v d =
        let y = partner (w.threads t) (vs t) (ps t) d.from d.is in
        let g = arrived y.2 d.silents in
        let e = a.next d.before in
        let q = shows d.before g.to g.same (loud_does t w d.before e v d.does) in
        let l = does_event t w vs ps d.before g.to q e v d.does in
        let m = subst (λ z. Does t w vs g.to z v (event_cost a p t w d.before e v d.does)) (sym (seen d.before g.to q)) l in
        record {
          threads = m.threads;
          steps = record { going = d.going; from = y.0; before = g.to; is = y.1; silents = g.silents; does = m.does };
          pairs = m.pairs;
          short = both (silent_cost g.silents) (event_cost b p t (with_threads w vs) g.to (b.next g.to) (with_threads v m.threads) m.does)
              (silent_cost d.silents) (event_cost a p t w d.before e v d.does) g.short m.short;
        }
      where
        both : (x y m n : ℕ) → x ≤ m → y ≤ n → x + y ≤ m + n
        both x y m n e f = omega (arith, e, f)

    pub record Cheaper (w : World S) (vs : ℕ → Option (Alive T)) (order : List ℕ) (v : World S) (n : ℕ) : Type 0 where
      pub threads : ℕ → Option (Alive T)
      pub replays : Replays b p (with_threads w vs) order (with_threads v threads)
      pub pairs : Pairs v.threads threads
      pub short : cost b p (with_threads w vs) order (with_threads v threads) replays ≤ n

    pub cheaper : (order : List ℕ) (w v : World S) (vs : ℕ → Option (Alive T)) → Pairs w.threads vs → (h : Replays a p w order v)
        → Cheaper w vs order v (cost a p w order v h)
    cheaper [] w v vs ps h = record {
      threads = vs;
      replays = ap (λ z. with_threads z vs) h;
      pairs = subst (λ z. Pairs z.threads vs) (sym h) ps;
      short =
          omega arith;
    }
    cheaper (t ∷ order) w v vs ps h =
        let o = stepped t w vs ps h.0 h.1 in
        let r = cheaper order h.0 v o.threads o.pairs h.2 in
        record {
          threads = r.threads;
          replays = (with_threads h.0 o.threads, o.steps, r.replays);
          pairs = r.pairs;
          short = both (step_cost b p t (with_threads w vs) (with_threads h.0 o.threads) o.steps)
              (cost b p (with_threads h.0 o.threads) order (with_threads v r.threads) r.replays) (step_cost a p t w h.0 h.1)
              (cost a p h.0 order v h.2) o.short r.short;
        }
      where
        both : (x y m n : ℕ) → x ≤ m → y ≤ n → x + y ≤ m + n
        both x y m n e f = omega (arith, e, f)

    -- from the start
    pub firsts : (s : S) (r : T) → Same s r → Pairs (only_first s) (only_first r)
    firsts s r h zero = (refl, h)
    firsts s r h (suc n) = tt
