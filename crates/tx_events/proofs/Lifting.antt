-- A step of the indivisible world of one kind of thread is a step of the other's.
use Rattle.std.proofs.Common.{ℕ, ℤ, pos, negsuc, zero, suc, ◌≡◌, ◌==◌, ◌+◌, ◌<◌, ◌≤◌, ◌^◌, Bool, true, false, cond, refl, ap, sym, ◌∙◌, subst, List, [], ◌∷◌}
use Rattle.std.proofs.Common.{Option, Some, None, arith}
use Rattle.std.specs.Prelude.{◌||◌, nat_lt}
use Rattle.std.proofs.lemmas.Bool.{true≢false, ltb-true}
use Rattle.tx_events.specs.declared.TheConstants.{THREAD_LIMIT}
use Rattle.tx_events.specs.declared.End.{End}
use Rattle.tx_events.specs.declared.End.TheVariants.{Trapped}
use Rattle.tx_events.specs.declared.Trap.TheVariants.{BadAddress, TooManyThreads, BadJoin}
use Rattle.tx_events.specs.declared.BlockKind.{BlockKind}
use Rattle.tx_events.specs.declared.BlockKind.TheVariants.{NoExcept, Commit, Cancel}
use Rattle.tx_events.specs.declared.Event.{Event}
use Rattle.tx_events.specs.declared.Event.TheVariants.{Silent, Load, Store, Out, Inp, Spawn, Join, BeginAtomic, EndAtomic, Raise, BeginSync, EndSync, Done}
use Rattle.tx_events.specs.declared.Event.TheVariants.{Stop}
use Rattle.tx_events.specs.declared.Reply.{Reply}
use Rattle.tx_events.specs.declared.Reply.TheVariants.{Nothing, Loaded, Byte, Id}
use Rattle.tx_events.specs.Thread.{Thread, Answers, is_silent}
use Rattle.tx_events.specs.Memory.{update, MemoryLayout, can_access, word_of, read_at, merge}
use Rattle.tx_events.specs.Alone.{Inner, inner_load, inner_store, inner_by, leave, raise, newest, begin, BlockStep, Goes, Leaves, Halts, Never, Inside}
use Rattle.tx_events.specs.Alone.{at_start, goes_on, is_over}
use Rattle.tx_events.specs.World.{Alive, alive, World, Step, Replays, EventStep, BlockEffect, Joins, target, goes, ends, byte_of, SilentSteps, none, one_more}
use Rattle.tx_events.specs.World.{first_world, only_first}
use Rattle.tx_events.specs.Same.{Reaches, at_once, silently, answered, SameEvents, SameThread, Paired, Descends, at_first, went_on, started, with_threads}
use Rattle.tx_events.specs.Same.{SameChildren}
use Rattle.tx_events.proofs.BlockRuns.{OnGoes}
use Rattle.tx_events.proofs.WordLemmas.{read_fits, byte_int}
use Rattle.tx_events.proofs.ReachingLemmas.{reach_silents, after_silents, past_silent, after_event}

module _ {S T : Type 0} (a : Thread S) (b : Thread T) (main : S) (main' : T) where
  abbrev Same : S → T → Type 0
  Same s r = Paired a b main main' s r

  -- silent steps of the first change nothing
  pub same_silents : (s : S) (r : T) {q : S} → Same s r → SilentSteps a s q → Same q r
  same_silents s r h none = h
  same_silents s r h (one_more {r = q} f e) =
      let g = same_silents s r h f in
      record {
        events = record {
          there = λ rs v i c. g.events.there rs v i (record { at = c.at; reaches = silently e c.reaches; is = c.is });
          back = λ rs v i c. let d = g.events.back rs v i c in record { at = d.at; reaches = past_silent a e d.reaches (ap is_silent d.is ∙ i); is = d.is };
        };
        first = went_on Nothing g.first (subst (λ z. Answers z Nothing) (sym e) refl);
        second = g.second;
      }

  descends_on : {r q : T} → Descends b main' r → SilentSteps b r q → Descends b main' q
  descends_on h none = h
  descends_on h (one_more f e) = went_on Nothing (descends_on h f) (subst (λ z. Answers z Nothing) (sym e) refl)

  -- where one comes to an event, so does the other, and they go on alike
  pub record Meets (q : S) (r : T) (e : Event) : Type 0 where
    pub at : T
    pub silents : SilentSteps b r at
    pub is : b.next at ≡ e
    pub alike : (x : Reply) → Answers e x → Same (a.after q x) (b.after at x)

  pub meet : (q : S) (r : T) (e : Event) → Same q r → a.next q ≡ e → is_silent e ≡ false → Meets q r e
  meet q r e h is loud =
      let c = h.events.there [] e loud (record { at = q; reaches = at_once; is = is }) in
      let quiet_b = ap is_silent c.is ∙ loud in
      let quiet_a = ap is_silent is ∙ loud in
      let silents = reach_silents b c.reaches refl in
      record {
        at = c.at;
        silents = silents;
        is = c.is;
        alike = λ x f. record {
          events = record {
            there = λ rs v i d.
                let m = h.events.there (x ∷ rs) v i (record {
                  at = d.at;
                  reaches = answered quiet_a (subst (λ z. Answers z x) (sym is) f) d.reaches;
                  is =
                      d.is;
                }) in
                record {
                  at = m.at;
                  reaches = after_event b quiet_b (after_silents b c.reaches refl quiet_b m.reaches (ap is_silent m.is ∙ i)) refl;
                  is =
                      m.is;
                };
            back = λ rs v i d.
                let m = h.events.back (x ∷ rs) v i (record {
                  at = d.at;
                  reaches = reach_after silents
                      (answered quiet_b (subst (λ z. Answers z x) (sym c.is) f) d.reaches);
                  is = d.is;
                }) in
                record { at = m.at; reaches = after_event a quiet_a m.reaches refl; is = m.is };
          };
          first = went_on x h.first (subst (λ z. Answers z x) (sym is) f);
          second = went_on x (descends_on h.second silents) (subst (λ z. Answers z x) (sym c.is) f);
        };
      }
    where
      reach_after : {s u w : T} {rs : List Reply} → SilentSteps b s u → Reaches b u rs w → Reaches b s rs w
      reach_after none h = h
      reach_after (one_more g i) h = reach_after g (silently i h)

  -- a block with the other thread in it
  abbrev with_state : Inner S → T → Inner T
  with_state i r = record { state = r; memory = i.memory; accessed = i.accessed; stored = i.stored; copies = i.copies }

  abbrev SameTook : BlockStep S → BlockStep T → Type 0
  SameTook (Goes i) y = (r : T) × (y ≡ Goes (with_state i r)) × Same i.state r
  SameTook (Leaves s m) y = (r : T) × (y ≡ Leaves r m) × Same s r
  SameTook (Halts e) y = y ≡ Halts e
  SameTook Never y = Unit {0}

  same_either : (c : Bool) (i : Inner S) (r : T) (e : End) → Same i.state r → SameTook (cond c (Goes i) (Halts e)) (cond c (Goes (with_state i r)) (Halts e))
  same_either true i r e h = (r, refl, h)
  same_either false i r e h = refl

  same_leave : (i : Inner S) (r : T) (m : ℕ → ℕ) (cs : List (ℕ → ℕ)) → Same (a.after i.state Nothing) (b.after r Nothing)
      → SameTook (leave a i m cs) (leave b (with_state i r) m cs)
  same_leave i r m [] h = tt
  same_leave i r m (c ∷ []) h = (b.after r Nothing, refl, h)
  same_leave i r m (c ∷ d ∷ cs) h = (b.after r Nothing, refl, h)

  same_raise : (i : Inner S) (r : T) (kind : BlockKind) (can : Bool) → Same (a.after i.state Nothing) (b.after r Nothing)
      → SameTook (raise a i kind can) (raise b (with_state i r) kind can)
  same_raise i r NoExcept can h = refl
  same_raise i r Commit can h = same_leave i r i.memory i.copies h
  same_raise i r Cancel true h = same_leave i r (newest i.copies i.memory) i.copies h
  same_raise i r Cancel false h = refl

  module _ (p : MemoryLayout) where
    same_took : (i : Inner S) (r : T) (e : Event) → is_silent e ≡ false → ((x : Reply) → Answers e x → Same (a.after i.state x) (b.after r x))
        → SameTook (inner_by a p i e) (inner_by b p (with_state i r) e)
    same_took i r Silent loud h = absurd (true≢false loud)
    same_took i r (Load addr size vol) loud h = same_either (can_access p addr size) (inner_load a i addr size)
        (b.after r (Loaded (read_at addr size (i.memory (word_of addr))))) (Trapped BadAddress)
        (h (Loaded (read_at addr size (i.memory (word_of addr)))) (read_fits addr size (i.memory (word_of addr))))
    same_took i r (Store addr size value vol) loud h =
        same_either (can_access p addr size) (inner_store a i addr size value) (b.after r Nothing) (Trapped BadAddress) (h Nothing refl)
    same_took i r (BeginAtomic kind) loud h = (b.after r Nothing, refl, h Nothing refl)
    same_took i r EndAtomic loud h = same_leave i r i.memory i.copies (h Nothing refl)
    same_took i r (Raise kind can) loud h = same_raise i r kind can (h Nothing refl)
    same_took i r BeginSync loud h = (b.after r Nothing, refl, h Nothing refl)
    same_took i r EndSync loud h = (b.after r Nothing, refl, h Nothing refl)
    same_took i r (Stop e) loud h = refl
    same_took i r (Out c) loud h = tt
    same_took i r Inp loud h = tt
    same_took i r (Spawn g x) loud h = tt
    same_took i r (Join id) loud h = tt
    same_took i r Done loud h = tt

    inside_silents : {j : Inner T} (i : Inner S) {r q : T} → Inside b p j (with_state i r) → SilentSteps b r q → Inside b p j (with_state i q)
    inside_silents i h none = h
    inside_silents i h (one_more {r = q} g e) = goes_on (inside_silents i h g) (ap (inner_by b p (with_state i q)) e)

    -- whole runs
    abbrev Runs : S → T → (ℕ → ℕ) → Inner S → Type 0
    Runs s r m k = (q : T) × Inside b p (begin r m) (with_state k q) × Same k.state q

    took_runs : (s : S) (r : T) (m : ℕ → ℕ) (j : Inner T) → Inside b p (begin r m) j → (y : BlockStep S) → SameTook y (inner_by b p j (b.next j.state))
        → OnGoes (Runs s r m) y
    took_runs s r m j run (Goes k) h = (h.0, goes_on run h.1, h.2)
    took_runs s r m j run (Leaves q n) h = tt
    took_runs s r m j run (Halts e) h = tt
    took_runs s r m j run Never h = tt

    -- a step that is not silent, by the other thread
    took_by : (s : S) (r : T) (m : ℕ → ℕ) (j : Inner S) (q : T) (v : Event) → Inside b p (begin r m) (with_state j q) → (n : Meets j.state q v)
        → is_silent v ≡ false
        → Inside b p (begin r m) (with_state j n.at) × SameTook (inner_by a p j v) (inner_by b p (with_state j n.at) (b.next n.at))
    took_by s r m j q v run n loud = (
      inside_silents j run n.silents,
      subst (λ z. SameTook (inner_by a p j v) (inner_by b p (with_state j n.at) z)) (sym n.is)
          (same_took j n.at v loud n.alike),
    )

    loud_runs : (s : S) (r : T) (m : ℕ → ℕ) (j : Inner S) (q : T) (v : Event) → a.next j.state ≡ v → is_silent v ≡ false
        → Inside b p (begin r m) (with_state j q) → Same j.state q → OnGoes (Runs s r m) (inner_by a p j v)
    loud_runs s r m j q v is loud run same =
        let n = meet j.state q v same is loud in
        let t = took_by s r m j q v run n loud in
        took_runs s r m (with_state j n.at) t.0 (inner_by a p j v) t.1

    event_runs : (s : S) (r : T) (m : ℕ → ℕ) (j : Inner S) (q : T) (v : Event) → a.next j.state ≡ v → Inside b p (begin r m) (with_state j q) → Same j.state q
        → OnGoes (Runs s r m) (inner_by a p j v)
    event_runs s r m j q Silent is run same = (q, run, same_silents j.state q same (one_more none is))
    event_runs s r m j q (Load addr size vol) is run same = loud_runs s r m j q (Load addr size vol) is refl run same
    event_runs s r m j q (Store addr size value vol) is run same = loud_runs s r m j q (Store addr size value vol) is refl run same
    event_runs s r m j q (BeginAtomic kind) is run same = loud_runs s r m j q (BeginAtomic kind) is refl run same
    event_runs s r m j q EndAtomic is run same = loud_runs s r m j q EndAtomic is refl run same
    event_runs s r m j q (Raise kind can) is run same = loud_runs s r m j q (Raise kind can) is refl run same
    event_runs s r m j q BeginSync is run same = loud_runs s r m j q BeginSync is refl run same
    event_runs s r m j q EndSync is run same = loud_runs s r m j q EndSync is refl run same
    event_runs s r m j q (Stop e) is run same = tt
    event_runs s r m j q (Out c) is run same = tt
    event_runs s r m j q Inp is run same = tt
    event_runs s r m j q (Spawn g x) is run same = tt
    event_runs s r m j q (Join id) is run same = tt
    event_runs s r m j q Done is run same = tt

    same_inside : (s : S) (r : T) (m : ℕ → ℕ) {i : Inner S} → Same s r → Inside a p (begin s m) i → Runs s r m i
    same_inside s r m h at_start = (r, at_start, h)
    same_inside s r m h (goes_on {j} {k} g e) =
        let before = same_inside s r m h g in
        subst (OnGoes (Runs s r m)) e (event_runs s r m j before.0 (a.next j.state) refl before.1 before.2)

    -- the worlds, with the threads of the one kind and of the other
    abbrev Pairs : (ℕ → Option (Alive S)) → (ℕ → Option (Alive T)) → Type 0
    Pairs us vs = (u : ℕ) → SameThread a b main main' (us u) (vs u)

    pairs_update : (us : ℕ → Option (Alive S)) (vs : ℕ → Option (Alive T)) (t : ℕ) (x : Alive S) (y : Alive T) → Pairs us vs → y.ended ≡ x.ended
        → Same x.state y.state → Pairs (update us t (Some x)) (update vs t (Some y))
    pairs_update us vs t x y h e s u = elim (u == t) as (λ c. SameThread a b main main' (cond c (Some x) (us u)) (cond c (Some y) (vs u))) [
      | true ↦
          (e, s)
      | false ↦ h u
    ]

    -- what thread t does there
    abbrev Lifts : ℕ → World S → (ℕ → Option (Alive T)) → T → Event → World S → Type 0
    Lifts t w vs r e v = (ts : ℕ → Option (Alive T)) × EventStep b p t (with_threads w vs) r e (with_threads v ts) × Pairs v.threads ts

    either_lifts : (t : ℕ) (w : World S) (vs : ℕ → Option (Alive T)) (c : Bool) (x y : World S) (X Y : World T)
        → (c ≡ true → (ts : ℕ → Option (Alive T)) × (with_threads x ts ≡ X) × Pairs x.threads ts)
        → (c ≡ false → (ts : ℕ → Option (Alive T)) × (with_threads y ts ≡ Y) × Pairs y.threads ts)
        → (ts : ℕ → Option (Alive T)) × (with_threads (cond c x y) ts ≡ cond c X Y) × Pairs (cond c x y).threads ts
    either_lifts t w vs true x y X Y f g = f refl
    either_lifts t w vs false x y X Y f g = g refl

    joined : (t : ℕ) (w : World S) (vs : ℕ → Option (Alive T)) (s : S) (r : T) (o : Option (Alive S)) (q : Option (Alive T)) (v : World S)
        → SameThread a b main main' o q → Pairs w.threads vs → Same s r → Joins t w s o v
        → (ts : ℕ → Option (Alive T)) × Joins t (with_threads w vs) r q (with_threads v ts) × Pairs v.threads ts
    joined t w vs s r None None v h ps same is = subst
        (λ z. (ts : ℕ → Option (Alive T)) × (with_threads z ts ≡ ends (with_threads w vs) (Trapped BadJoin)) × Pairs z.threads ts) (sym is) (vs, refl, ps)
    joined t w vs s r None (Some y) v h ps same is = absurd h
    joined t w vs s r (Some x) None v h ps same is = absurd h
    joined t w vs s r (Some x) (Some y) v h ps same is =
        subst (λ z. (ts : ℕ → Option (Alive T)) × ((y.ended ≡ true) × (with_threads z ts ≡ goes t (with_threads w vs) r)) × Pairs z.threads ts) (sym is.1) (
          update vs t (alive r),
          (h.0 ∙ is.0, refl),
          pairs_update w.threads vs t (record { state = s; ended = false })
              (record { state = r; ended = false }) ps refl same,
        )

    same_target : (t : ℕ) (id : ℤ) (us : ℕ → Option (Alive S)) (vs : ℕ → Option (Alive T)) → Pairs us vs
        → SameThread a b main main' (target t id us) (target t id vs)
    same_target t (pos n) us vs h = elim ((n == 0) || (n == t)) as (λ c. SameThread a b main main' (cond c None (us n))
        (cond c None (vs n))) [ true ↦ tt | false ↦ h n ]
    same_target t (negsuc n) us vs h = tt

    landed : (t : ℕ) (w : World S) (vs : ℕ → Option (Alive T)) (y : BlockStep S) (z : BlockStep T) (v : World S) → Pairs w.threads vs → SameTook y z
        → BlockEffect t w y v
        → (ts : ℕ → Option (Alive T)) × BlockEffect t (with_threads w vs) z (with_threads v ts) × Pairs v.threads ts
    landed t w vs (Goes i) z v ps h is = absurd is
    landed t w vs Never z v ps h is = absurd is
    landed t w vs (Halts e) z v ps h is = subst (λ q. (ts : ℕ → Option (Alive T)) × BlockEffect t (with_threads w vs) q (with_threads v ts)
        × Pairs v.threads ts) (sym h)
        (subst (λ q. (ts : ℕ → Option (Alive T)) × (with_threads q ts ≡ ends (with_threads w vs) e) × Pairs q.threads ts) (sym is) (vs, refl, ps))
    landed t w vs (Leaves s m) z v ps h is = subst (λ q. (ts : ℕ → Option (Alive T)) × BlockEffect t (with_threads w vs) q (with_threads v ts)
        × Pairs v.threads ts) (sym h.1)
        (subst (λ q. (ts : ℕ → Option (Alive T)) × (with_threads q ts ≡ record (with_threads w vs) { memory = m; threads = update vs t (alive h.0) })
        × Pairs q.threads ts) (sym is)
        (update vs t (alive h.0), refl, pairs_update w.threads vs t (record { state = s; ended = false }) (record { state = h.0; ended = false }) ps refl h.2))

    is_landed : (t : ℕ) (w : World T) (y : BlockStep T) (v : World T) → BlockEffect t w y v → is_over y ≡ true
    is_landed t w (Goes i) v h = absurd h
    is_landed t w Never v h = absurd h
    is_landed t w (Leaves s m) v h = refl
    is_landed t w (Halts e) v h = refl

    loud_last : (e : Event) (t : ℕ) (w : World S) (i : Inner S) (v : World S) → BlockEffect t w (inner_by a p i e) v → is_silent e ≡ false
    loud_last Silent t w i v h = absurd h
    loud_last (Load addr size vol) t w i v h = refl
    loud_last (Store addr size value vol) t w i v h = refl
    loud_last (BeginAtomic kind) t w i v h = refl
    loud_last EndAtomic t w i v h = refl
    loud_last (Raise kind can) t w i v h = refl
    loud_last BeginSync t w i v h = refl
    loud_last EndSync t w i v h = refl
    loud_last (Stop e) t w i v h = refl
    loud_last (Out c) t w i v h = refl
    loud_last Inp t w i v h = refl
    loud_last (Spawn g x) t w i v h = refl
    loud_last (Join id) t w i v h = refl
    loud_last Done t w i v h = refl

    module _ (t : ℕ) (w : World S) (vs : ℕ → Option (Alive T)) (ps : Pairs w.threads vs) where
      -- the thread goes on with this state
      one : (s : S) (r : T) (c : Bool) → Same s r → Pairs (update w.threads t (Some (record { state = s; ended = c })))
          (update vs t (Some (record { state = r; ended = c })))
      one s r c h = pairs_update w.threads vs t (record { state = s; ended = c }) (record { state = r; ended = c }) ps refl h

      block : (s : S) (r : T) (kind : BlockKind) (v : World S) → Same (a.after s Nothing) (b.after r Nothing) → EventStep a p t w s (BeginAtomic kind) v
          → Lifts t w vs r (BeginAtomic kind) v
      block s r kind v h d =
          let i = d.1.last in
          let e = a.next i.state in
          let run = same_inside (a.after s Nothing) (b.after r Nothing) w.memory h d.1.run in
          let loud = loud_last e t w i v d.2 in
          let n = meet i.state run.0 e run.2 refl loud in
          let k = took_by (a.after s Nothing) (b.after r Nothing) w.memory i run.0 e run.1 n loud in
          let last = landed t w vs (inner_by a p i e) (inner_by b p (with_state i n.at) (b.next n.at)) v ps k.1 d.2 in (
            last.0,
            (
              d.0,
              record {
                last = with_state i n.at;
                run = k.0;
                over = is_landed t (with_threads w vs) (inner_by b p (with_state i n.at) (b.next n.at))
                    (with_threads v last.0) last.1;
              },
              last.1,
            ),
            last.2,
          )

      int_below : (n : ℕ) → n < p.limit → p.limit ≤ THREAD_LIMIT → n < 2 ^ 31
      int_below n h few = omega (arith, h, few)

      lifts : (kids : SameChildren a b main main') → p.limit ≤ THREAD_LIMIT → (s : S) (r : T) (e : Event) (v : World S) → Same s r → a.next s ≡ e → b.next r ≡ e
          → ((x : Reply) → Answers e x → Same (a.after s x) (b.after r x)) → EventStep a p t w s e v → Lifts t w vs r e v
      lifts kids few s r Silent v q i j h d = absurd d
      lifts kids few s r EndAtomic v q i j h d = absurd d
      lifts kids few s r (Raise kind can) v q i j h d = absurd d
      lifts kids few s r (BeginAtomic kind) v q i j h d = block s r kind v (h Nothing refl) d
      lifts kids few s r (Load addr size vol) v q i j h d =
          let x = Loaded (read_at addr size (w.memory (word_of addr))) in
          subst (λ z. Lifts t w vs r (Load addr size vol) z) (sym d)
          (either_lifts t w vs (can_access p addr size) (goes t w (a.after s x)) (ends w (Trapped BadAddress)) (goes t (with_threads w vs) (b.after r x))
          (ends (with_threads w vs) (Trapped BadAddress))
          (λ ok. (update vs t (alive (b.after r x)), refl, one (a.after s x) (b.after r x) false (h x (read_fits addr size (w.memory (word_of addr))))))
          (λ no. (vs, refl, ps)))
      lifts kids few s r (Store addr size value vol) v q i j h d =
          let m = update w.memory (word_of addr) (merge addr size value (w.memory (word_of addr))) in
          subst (λ z. Lifts t w vs r (Store addr size value vol) z) (sym d)
          (either_lifts t w vs (can_access p addr size) (record w { memory = m; threads = update w.threads t (alive (a.after s Nothing)) })
          (ends w (Trapped BadAddress)) (record (with_threads w vs) { memory = m; threads = update vs t (alive (b.after r Nothing)) })
          (ends (with_threads w vs) (Trapped BadAddress))
          (λ ok. (update vs t (alive (b.after r Nothing)), refl, one (a.after s Nothing) (b.after r Nothing) false (h Nothing refl)))
          (λ no. (vs, refl, ps)))
      lifts kids few s r (Out c) v q i j h d = subst (λ z. Lifts t w vs r (Out c) z) (sym d)
          (update vs t (alive (b.after r Nothing)), refl, one (a.after s Nothing) (b.after r Nothing) false (h Nothing refl))
      lifts kids few s r Inp v q i j h d = subst (λ z. Lifts t w vs r Inp z) (sym d) (
        update vs t (alive (b.after r (Byte (byte_of w.input)))),
        refl,
        one (a.after s (Byte (byte_of w.input))) (b.after r (Byte (byte_of w.input))) false (h (Byte (byte_of w.input)) (byte_int w.input)),
      )
      lifts kids few s r (Spawn g x) v q i j h d =
          let n = w.started in
          let id = Id (pos n) in
          subst (λ z. Lifts t w vs r (Spawn g x) z) (sym d) (either_lifts t w vs (nat_lt n p.limit)
          (record w { started = n + 1; threads = update (update w.threads n (alive (a.child s n g x))) t (alive (a.after s id)) })
          (ends w (Trapped TooManyThreads))
          (record (with_threads w vs) { started = n + 1; threads = update (update vs n (alive (b.child r n g x))) t (alive (b.after r id)) })
          (ends (with_threads w vs) (Trapped TooManyThreads))
          (λ ok. (
            update (update vs n (alive (b.child r n g x))) t (alive (b.after r id)),
            refl,
            pairs_update (update w.threads n (alive (a.child s n g x))) (update vs n (alive (b.child r n g x))) t
                (record { state = a.after s id; ended = false }) (record { state = b.after r id; ended = false })
                (pairs_update w.threads vs n (record { state = a.child s n g x; ended = false }) (record { state = b.child r n g x; ended = false }) ps refl
                (record { events = kids s r n g x q.first q.second q.events i j; first = started n g x q.first i; second = started n g x q.second j })) refl
                (h id (int_below n (ltb-true n p.limit ok) few)),
          ))
          (λ no. (vs, refl, ps)))
      lifts kids few s r (Join id) v q i j h d = joined t w vs (a.after s Nothing) (b.after r Nothing) (target t id w.threads) (target t id vs) v
          (same_target t id w.threads vs ps) ps (h Nothing refl) d
      lifts kids few s r BeginSync v q i j h d = subst (λ z. Lifts t w vs r BeginSync z) (sym d.1)
          (update vs t (alive (b.after r Nothing)), (d.0, refl), one (a.after s Nothing) (b.after r Nothing) false (h Nothing refl))
      lifts kids few s r EndSync v q i j h d = subst (λ z. Lifts t w vs r EndSync z) (sym d)
          (update vs t (alive (b.after r Nothing)), refl, one (a.after s Nothing) (b.after r Nothing) false (h Nothing refl))
      lifts kids few s r Done v q i j h d = subst (λ z. Lifts t w vs r Done z) (sym d)
          (update vs t (Some (record { state = b.after r Nothing; ended = true })), refl, one (a.after s Nothing) (b.after r Nothing) true (h Nothing refl))
      lifts kids few s r (Stop e) v q i j h d = subst (λ z. Lifts t w vs r (Stop e) z) (sym d) (vs, refl, ps)

      loud_does : (s : S) (e : Event) (v : World S) → EventStep a p t w s e v → is_silent e ≡ false
      loud_does s Silent v d = absurd d
      loud_does s EndAtomic v d = refl
      loud_does s (Raise kind can) v d = refl
      loud_does s (BeginAtomic kind) v d = refl
      loud_does s (Load addr size vol) v d = refl
      loud_does s (Store addr size value vol) v d = refl
      loud_does s (Out c) v d = refl
      loud_does s Inp v d = refl
      loud_does s (Spawn g x) v d = refl
      loud_does s (Join id) v d = refl
      loud_does s BeginSync v d = refl
      loud_does s EndSync v d = refl
      loud_does s Done v d = refl
      loud_does s (Stop e) v d = refl

      partner : (o : Option (Alive S)) (q : Option (Alive T)) → SameThread a b main main' o q → (s : S) → o ≡ alive s → (r : T) × (q ≡ alive r) × Same s r
      partner None None h s e = absurd (cc)
      partner None (Some y) h s e = absurd h
      partner (Some x) None h s e = absurd h
      partner (Some x) (Some y) h s e =
          let i : x ≡ record { state = s; ended = false } = cc in
          (y.state, ap (λ c. Some (record { state = y.state; ended = c })) (h.0 ∙ ap (λ z. z.ended) i), subst (λ z. Same z y.state) (ap (λ z. z.state) i) h.1)

      -- a step of the one world is a step of the other
      -- a step of the one world is a step of the other
      pub step_lifts : SameChildren a b main main' → p.limit ≤ THREAD_LIMIT → (v : World S) → Step a p t w v → (ts : ℕ → Option (Alive T))
          × Step b p t (with_threads w vs) (with_threads v ts) × Pairs v.threads ts
      step_lifts kids few v d =
          let y = partner (w.threads t) (vs t) (ps t) d.from d.is in
          let same = same_silents d.from y.0 y.2 d.silents in
          let e = a.next d.before in
          let n = meet d.before y.0 e same refl (loud_does d.before e v d.does) in
          let seen : Same d.before n.at = same_after d.before y.0 n.at same n.silents in
          let l = lifts kids few d.before n.at e v seen refl n.is n.alike d.does in (
            l.0,
            record {
              going = d.going;
              from = y.0;
              before = n.at;
              is = y.1;
              silents = n.silents;
              does = subst
                  (λ z. EventStep b p t (with_threads w vs) n.at z (with_threads v l.0)) (sym n.is) l.1;
            },
            l.2,
          )
        where
          same_after : (s : S) (r q : T) → Same s r → SilentSteps b r q → Same s q
          same_after s r q h none = h
          same_after s r q h (one_more {r = z} f i) =
              let g = same_after s r z h f in
              record {
                events = record {
                  there = λ rs v i' c. let d = g.events.there rs v i' c in
                      record { at = d.at; reaches = past_silent b i d.reaches (ap is_silent d.is ∙ i'); is = d.is };
                  back = λ rs v i' c. g.events.back rs v i' (record { at = c.at; reaches = silently i c.reaches; is = c.is });
                };
                first = g.first;
                second = went_on Nothing g.second (subst (λ z. Answers z Nothing) (sym i) refl);
              }

    -- and so are any steps
    pub replays_lift : SameChildren a b main main' → p.limit ≤ THREAD_LIMIT → (order : List ℕ) (w v : World S) (vs : ℕ → Option (Alive T)) → Pairs w.threads vs
        → Replays a p w order v → (ts : ℕ → Option (Alive T)) × Replays b p (with_threads w vs) order (with_threads v ts) × Pairs v.threads ts
    replays_lift kids few [] w v vs ps h = (vs, ap (λ z. with_threads z vs) h, subst (λ z. Pairs z.threads vs) (sym h) ps)
    replays_lift kids few (t ∷ order) w v vs ps h =
        let one_step = step_lifts t w vs ps kids few h.0 h.1 in
        let rest = replays_lift kids few order h.0 v one_step.0 one_step.2 h.2 in
        (rest.0, (with_threads h.0 one_step.0, one_step.1, rest.1), rest.2)

    -- from the start
    pub starts_lift : SameChildren a b main main' → SameEvents a b main main' → p.limit ≤ THREAD_LIMIT
        → (memory : ℕ → ℕ) (input : List ℕ) (order : List ℕ) (v : World S) → Replays a p (first_world memory input main) order v
        → (ts : ℕ → Option (Alive T)) × Replays b p (first_world memory input main') order (with_threads v ts) × Pairs v.threads ts
    starts_lift kids same few memory input order v h =
        subst (λ z. (ts : ℕ → Option (Alive T)) × Replays b p z order (with_threads v ts) × Pairs v.threads ts) refl
        (replays_lift kids few order (first_world memory input main) v (only_first main') firsts h)
      where
        firsts : (u : ℕ) → SameThread a b main main' (only_first main u) (only_first main' u)
        firsts zero = (refl, record { events = same; first = at_first; second = at_first })
        firsts (suc n) = tt
