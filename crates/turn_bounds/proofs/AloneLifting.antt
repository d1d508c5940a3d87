-- A replay in which thread 0 stays alone is one of a thread with the same events, within its limit.
use Rattle.std.proofs.Common.{ℕ, ℤ, pos, negsuc, zero, suc, ◌≡◌, ◌==◌, ◌+◌, ◌*◌, ◌≤◌, Bool, true, false, cond, refl, ap, sym, ◌∙◌, subst, List, [], ◌∷◌, Option, Some, None, arith}
use Rattle.std.specs.Prelude.{◌||◌}
use Rattle.std.proofs.lemmas.Bool.{true≢false, eqb-true}
use Rattle.std.proofs.Math.Nat.{mul-le-mul_left, mul-add}
use Rattle.tx_events.specs.declared.End.{End}
use Rattle.tx_events.specs.declared.End.TheVariants.{Trapped}
use Rattle.tx_events.specs.declared.Trap.TheVariants.{BadAddress, BadJoin}
use Rattle.tx_events.specs.declared.BlockKind.{BlockKind}
use Rattle.tx_events.specs.declared.BlockKind.TheVariants.{NoExcept, Commit, Cancel}
use Rattle.tx_events.specs.declared.Event.{Event}
use Rattle.tx_events.specs.declared.Event.TheVariants.{Silent, Load, Store, Out, Inp, Spawn, Join, BeginAtomic, EndAtomic, Raise, BeginSync, EndSync, Done}
use Rattle.tx_events.specs.declared.Event.TheVariants.{Stop}
use Rattle.tx_events.specs.declared.Reply.{Reply}
use Rattle.tx_events.specs.declared.Reply.TheVariants.{Nothing, Loaded, Byte}
use Rattle.tx_events.specs.Thread.{Thread, Answers, is_silent}
use Rattle.tx_events.specs.Memory.{update, MemoryLayout, can_access, word_of, read_at, merge}
use Rattle.tx_events.specs.Alone.{Inner, inner_load, inner_store, inner_by, leave, raise, newest, begin, BlockStep, Goes, Leaves, Halts, Never, Inside}
use Rattle.tx_events.specs.Alone.{at_start, goes_on, is_over}
use Rattle.tx_events.specs.World.{Alive, alive, World, Step, Replays, EventStep, BlockEffect, Joins, target, goes, ends, byte_of, SilentSteps, none, one_more}
use Rattle.tx_events.specs.World.{first_world, only_first}
use Rattle.tx_events.specs.Same.{SameEvents, StepsWithin, steps, with_threads}
use Rattle.tx_events.proofs.BlockRuns.{OnGoes}
use Rattle.tx_events.proofs.WordLemmas.{read_fits, byte_int}
use Rattle.tx_serial.specs.Bound.{Tally, no_tally, tallied, tally_in, tally_at, is_spawn, AtMost}
use Rattle.src_mean.specs.Cost.{silent_cost, inside_cost, event_cost, step_cost, cost}
use Rattle.turn_bounds.specs.Alone.{SpawnsNothing}
use Rattle.turn_bounds.proofs.Alike as alike
use Rattle.turn_bounds.proofs.Alike.{none_more, one_later, sum_first, past_silents, meet}

no_end : {P : Type 0} (e : End) → Some e ≡ None → P
no_end e i = absurd (cc)

no_thread : {A P : Type 0} (o : Option A) (x : A) → o ≡ None → o ≡ Some x → P
no_thread o x e f = absurd (cc)

block_cost : (c k : ℕ) → (c + 1 + k) + 1 ≡ c + (1 + k + 1)
block_cost c k = omega arith

step_sum : (c x y : ℕ) → (c + x) + y ≡ c + (x + y)
step_sum c x y = omega arith

rest_within : (c x y n : ℕ) → c + (x + y) ≤ n → (c + x) + y ≤ n
rest_within c x y n h = omega (arith, h)

here_within : (c x y n : ℕ) → c + (x + y) ≤ n → c + x ≤ n
here_within c x y n h = omega (arith, h)

le_first : (x l : ℕ) → x ≤ l → 0 + x ≤ l
le_first x l h = omega (arith, h)

le_through : (x y z : ℕ) → x ≤ y → y ≤ z → x ≤ z
le_through x y z h g = omega (arith, h, g)

-- thread 0 can join no one where it is alone
no_target : {A : Type 0} (us : ℕ → Option A) → ((u : ℕ) → (u == 0) ≡ false → us u ≡ None) → (id : ℤ) → target 0 id us ≡ None
no_target us h (pos n) = elim (n == 0) as (λ k. (n == 0) ≡ k → cond (k || k) None (us n) ≡ None) [ true ↦ λ e. refl | false ↦ λ e. h n e ] refl
no_target us h (negsuc n) = refl

elsewhere : {A : Type 0} (us : ℕ → Option A) (x : Option A) → ((u : ℕ) → (u == 0) ≡ false → us u ≡ None) → (u : ℕ) → (u == 0) ≡ false
    → update us 0 x u ≡ None
elsewhere us x h u e = ap (λ k. cond k x (us u)) e ∙ h u e

first_alone : {A : Type 0} (s : A) (u : ℕ) → (u == 0) ≡ false → only_first s u ≡ None
first_alone s zero e = absurd (true≢false e)
first_alone s (suc n) e = refl

loud_does : {S : Type 0} (a : Thread S) (p : MemoryLayout) (t : ℕ) (w : World S) (s : S) (e : Event) (v : World S) → EventStep a p t w s e v → is_silent e ≡ false
loud_does a p t w s Silent v d = absurd d
loud_does a p t w s EndAtomic v d = refl
loud_does a p t w s (Raise kind can) v d = refl
loud_does a p t w s (BeginAtomic kind) v d = refl
loud_does a p t w s (Load addr size vol) v d = refl
loud_does a p t w s (Store addr size value vol) v d = refl
loud_does a p t w s (Out c) v d = refl
loud_does a p t w s Inp v d = refl
loud_does a p t w s (Spawn g x) v d = refl
loud_does a p t w s (Join id) v d = refl
loud_does a p t w s BeginSync v d = refl
loud_does a p t w s EndSync v d = refl
loud_does a p t w s Done v d = refl
loud_does a p t w s (Stop e) v d = refl

module _ {S T : Type 0} (a : Thread S) (b : Thread T) (limit : ℕ → ℕ) (grows : (c : ℕ) → limit c + 1 ≤ limit (c + 1)) (p : MemoryLayout) where
  abbrev Both : Type 0
  Both = T × Tally

  abbrev Alike : ℕ → S → Both → Type 0
  Alike c s r = alike.Alike a b limit grows c s r

  abbrev Fits : ℕ → Tally → Type 0
  Fits c y = alike.Fits a b limit grows c y

  abbrev Meets : ℕ → S → Both → Event → Type 0
  Meets c q r e = alike.Meets a b limit grows c q r e

  -- ---- blocks

  -- a block with the other thread in it
  abbrev with_state : Inner S → Both → Inner Both
  with_state i r = record { state = r; memory = i.memory; accessed = i.accessed; stored = i.stored; copies = i.copies }

  abbrev Took : ℕ → BlockStep S → BlockStep Both → Type 0
  Took c (Goes i) y = (r : Both) × (y ≡ Goes (with_state i r)) × Alike c i.state r
  Took c (Leaves s m) y = (r : Both) × (y ≡ Leaves r m) × Alike c s r
  Took c (Halts e) y = y ≡ Halts e
  Took c Never y = Unit {0}

  module _ (c : ℕ) (i : Inner S) (r : Both) where
    took_either : (k : Bool) (j : Inner S) (q : Both) (e : End) → Alike c j.state q → Took c (cond k (Goes j) (Halts e)) (cond k (Goes (with_state j q)) (Halts e))
    took_either true j q e h = (q, refl, h)
    took_either false j q e h = refl

    took_leave : (m : ℕ → ℕ) (cs : List (ℕ → ℕ)) → Alike c (a.after i.state Nothing) ((tallied b).after r Nothing)
        → Took c (leave a i m cs) (leave (tallied b) (with_state i r) m cs)
    took_leave m [] h = tt
    took_leave m (d ∷ []) h = ((tallied b).after r Nothing, refl, h)
    took_leave m (d ∷ e ∷ cs) h = ((tallied b).after r Nothing, refl, h)

    took_raise : (kind : BlockKind) (can : Bool) → Alike c (a.after i.state Nothing) ((tallied b).after r Nothing)
        → Took c (raise a i kind can) (raise (tallied b) (with_state i r) kind can)
    took_raise NoExcept can h = refl
    took_raise Commit can h = took_leave i.memory i.copies h
    took_raise Cancel true h = took_leave (newest i.copies i.memory) i.copies h
    took_raise Cancel false h = refl

    took : (e : Event) → is_silent e ≡ false → ((x : Reply) → Answers e x → Alike c (a.after i.state x) ((tallied b).after r x))
        → Took c (inner_by a p i e) (inner_by (tallied b) p (with_state i r) e)
    took Silent loud h = absurd (true≢false loud)
    took (Load addr size vol) loud h = took_either (can_access p addr size) (inner_load a i addr size)
        ((tallied b).after r (Loaded (read_at addr size (i.memory (word_of addr))))) (Trapped BadAddress)
        (h (Loaded (read_at addr size (i.memory (word_of addr)))) (read_fits addr size (i.memory (word_of addr))))
    took (Store addr size value vol) loud h =
        took_either (can_access p addr size) (inner_store a i addr size value) ((tallied b).after r Nothing) (Trapped BadAddress) (h Nothing refl)
    took (BeginAtomic kind) loud h = ((tallied b).after r Nothing, refl, h Nothing refl)
    took EndAtomic loud h = took_leave i.memory i.copies (h Nothing refl)
    took (Raise kind can) loud h = took_raise kind can (h Nothing refl)
    took BeginSync loud h = ((tallied b).after r Nothing, refl, h Nothing refl)
    took EndSync loud h = ((tallied b).after r Nothing, refl, h Nothing refl)
    took (Stop e) loud h = refl
    took (Out x) loud h = tt
    took Inp loud h = tt
    took (Spawn g x) loud h = tt
    took (Join id) loud h = tt
    took Done loud h = tt

  inside_silents : {j : Inner Both} (i : Inner S) {r q : Both} → Inside (tallied b) p j (with_state i r) → SilentSteps (tallied b) r q
      → Inside (tallied b) p j (with_state i q)
  inside_silents i h none = h
  inside_silents i h (one_more {r = q} g e) = goes_on (inside_silents i h g) (ap (inner_by (tallied b) p (with_state i q)) e)

  -- a run of the block from here on
  abbrev Runs : ℕ → Both → (ℕ → ℕ) → Inner S → Type 0
  Runs c r m k = (q : Both) × Inside (tallied b) p (begin r m) (with_state k q) × Alike c k.state q

  took_runs : (c : ℕ) (r : Both) (m : ℕ → ℕ) (j : Inner Both) → Inside (tallied b) p (begin r m) j → (y : BlockStep S)
      → Took c y (inner_by (tallied b) p j ((tallied b).next j.state)) → OnGoes (Runs c r m) y
  took_runs c r m j run (Goes k) h = (h.0, goes_on run h.1, h.2)
  took_runs c r m j run (Leaves q n) h = tt
  took_runs c r m j run (Halts e) h = tt
  took_runs c r m j run Never h = tt

  -- a step that is not silent, by the other thread
  took_by : (c : ℕ) (r : Both) (m : ℕ → ℕ) (j : Inner S) (q : Both) (v : Event) → Inside (tallied b) p (begin r m) (with_state j q) → (n : Meets c j.state q v)
      → is_silent v ≡ false
      → Inside (tallied b) p (begin r m) (with_state j n.at) × Took (c + 1) (inner_by a p j v) (inner_by (tallied b) p (with_state j n.at) (b.next n.at.0))
  took_by c r m j q v run n loud = (
    inside_silents j run n.silents,
    subst (λ z. Took (c + 1) (inner_by a p j v) (inner_by (tallied b) p (with_state j n.at) z)) (sym n.is) (took (c + 1) j n.at v loud n.alike),
  )

  loud_runs : (c : ℕ) (r : Both) (m : ℕ → ℕ) (j : Inner S) (q : Both) (v : Event) → a.next j.state ≡ v → is_silent v ≡ false
      → Inside (tallied b) p (begin r m) (with_state j q) → Alike c j.state q → OnGoes (Runs (c + 1) r m) (inner_by a p j v)
  loud_runs c r m j q v is loud run same =
      let n = meet a b limit grows c j.state q v same is loud in
      let t = took_by c r m j q v run n loud in
      took_runs (c + 1) r m (with_state j n.at) t.0 (inner_by a p j v) t.1

  event_runs : (c : ℕ) (r : Both) (m : ℕ → ℕ) (j : Inner S) (q : Both) (v : Event) → a.next j.state ≡ v → Inside (tallied b) p (begin r m) (with_state j q)
      → Alike c j.state q → OnGoes (Runs (c + 1) r m) (inner_by a p j v)
  event_runs c r m j q Silent is run same = (q, run, past_silents a b limit grows c j.state q same (one_more none is))
  event_runs c r m j q (Load addr size vol) is run same = loud_runs c r m j q (Load addr size vol) is refl run same
  event_runs c r m j q (Store addr size value vol) is run same = loud_runs c r m j q (Store addr size value vol) is refl run same
  event_runs c r m j q (BeginAtomic kind) is run same = loud_runs c r m j q (BeginAtomic kind) is refl run same
  event_runs c r m j q EndAtomic is run same = loud_runs c r m j q EndAtomic is refl run same
  event_runs c r m j q (Raise kind can) is run same = loud_runs c r m j q (Raise kind can) is refl run same
  event_runs c r m j q BeginSync is run same = loud_runs c r m j q BeginSync is refl run same
  event_runs c r m j q EndSync is run same = loud_runs c r m j q EndSync is refl run same
  event_runs c r m j q (Stop e) is run same = tt
  event_runs c r m j q (Out x) is run same = tt
  event_runs c r m j q Inp is run same = tt
  event_runs c r m j q (Spawn g x) is run same = tt
  event_runs c r m j q (Join id) is run same = tt
  event_runs c r m j q Done is run same = tt

  runs_inside : (c : ℕ) (s : S) (r : Both) (m : ℕ → ℕ) {i : Inner S} → Alike c s r → (h : Inside a p (begin s m) i) → Runs (c + inside_cost h) r m i
  runs_inside c s r m h at_start = subst (λ z. Runs z r m (begin s m)) (none_more c) (r, at_start, h)
  runs_inside c s r m h (goes_on {j} {k} g e) =
      let before = runs_inside c s r m h g in
      subst (λ z. Runs z r m k) (one_later c (inside_cost g))
      (subst (OnGoes (Runs ((c + inside_cost g) + 1) r m)) e
      (event_runs (c + inside_cost g) r m j before.0 (a.next j.state) refl before.1 before.2))

  -- ---- worlds

  abbrev SameAlive : ℕ → Option (Alive S) → Option (Alive Both) → Type 0
  SameAlive c None q = ⊥
  SameAlive c (Some u) None = ⊥
  SameAlive c (Some u) (Some v) = (v.ended ≡ u.ended) × Alike c u.state v.state

  -- thread 0 alone was started in both
  record Lone (c : ℕ) (us : ℕ → Option (Alive S)) (vs : ℕ → Option (Alive Both)) : Type 0 where
    first : SameAlive c (us 0) (vs 0)
    others : (u : ℕ) → (u == 0) ≡ false → us u ≡ None
    absent : (u : ℕ) → (u == 0) ≡ false → vs u ≡ None

  -- what thread 0 does there
  abbrev Lifts : ℕ → World S → (ℕ → Option (Alive Both)) → Both → Event → World S → Type 0
  Lifts c w vs r e v = (ts : ℕ → Option (Alive Both)) × (d : EventStep (tallied b) p 0 (with_threads w vs) r e (with_threads v ts))
      × Fits c (tally_at b p 0 (with_threads w vs) r e (with_threads v ts) d) × (v.end ≡ None → Lone c v.threads ts)

  either_lifts : (c : ℕ) (F : Type 0) (k : Bool) (x y : World S) (X Y : World Both)
      → (ts : ℕ → Option (Alive Both)) × (with_threads x ts ≡ X) × F × (x.end ≡ None → Lone c x.threads ts)
      → (ts : ℕ → Option (Alive Both)) × (with_threads y ts ≡ Y) × F × (y.end ≡ None → Lone c y.threads ts)
      → (ts : ℕ → Option (Alive Both)) × (with_threads (cond k x y) ts ≡ cond k X Y) × F × ((cond k x y).end ≡ None → Lone c (cond k x y).threads ts)
  either_lifts c F true x y X Y f g = f
  either_lifts c F false x y X Y f g = g

  is_landed : (w : World Both) (y : BlockStep Both) (v : World Both) → BlockEffect 0 w y v → is_over y ≡ true
  is_landed w (Goes i) v h = absurd h
  is_landed w Never v h = absurd h
  is_landed w (Leaves s m) v h = refl
  is_landed w (Halts e) v h = refl

  loud_last : (e : Event) (w : World S) (i : Inner S) (v : World S) → BlockEffect 0 w (inner_by a p i e) v → is_silent e ≡ false
  loud_last Silent w i v h = absurd h
  loud_last (Load addr size vol) w i v h = refl
  loud_last (Store addr size value vol) w i v h = refl
  loud_last (BeginAtomic kind) w i v h = refl
  loud_last EndAtomic w i v h = refl
  loud_last (Raise kind can) w i v h = refl
  loud_last BeginSync w i v h = refl
  loud_last EndSync w i v h = refl
  loud_last (Stop e) w i v h = refl
  loud_last (Out x) w i v h = refl
  loud_last Inp w i v h = refl
  loud_last (Spawn g x) w i v h = refl
  loud_last (Join id) w i v h = refl
  loud_last Done w i v h = refl

  module _ (w : World S) (vs : ℕ → Option (Alive Both)) (others : (u : ℕ) → (u == 0) ≡ false → w.threads u ≡ None)
      (absent : (u : ℕ) → (u == 0) ≡ false → vs u ≡ None) where
    -- thread 0 goes on with this state
    goes_lone : (c : ℕ) (s : S) (r : Both) (k : Bool) → Alike c s r
        → Lone c (update w.threads 0 (Some (record { state = s; ended = k }))) (update vs 0 (Some (record { state = r; ended = k })))
    goes_lone c s r k h = record {
      first = (refl, h);
      others = elsewhere w.threads (Some (record { state = s; ended = k })) others;
      absent = elsewhere vs (Some (record { state = r; ended = k })) absent;
    }

    landed : (c : ℕ) (y : BlockStep S) (z : BlockStep Both) (v : World S) → Took c y z → BlockEffect 0 w y v
        → (ts : ℕ → Option (Alive Both)) × BlockEffect 0 (with_threads w vs) z (with_threads v ts) × (v.end ≡ None → Lone c v.threads ts)
    landed c (Goes i) z v h is = absurd is
    landed c Never z v h is = absurd is
    landed c (Halts e) z v h is = subst (λ q. (ts : ℕ → Option (Alive Both)) × BlockEffect 0 (with_threads w vs) q (with_threads v ts)
        × (v.end ≡ None → Lone c v.threads ts)) (sym h)
        (subst (λ q. (ts : ℕ → Option (Alive Both)) × (with_threads q ts ≡ ends (with_threads w vs) e) × (q.end ≡ None → Lone c q.threads ts)) (sym is)
        (vs, refl, λ i. no_end e i))
    landed c (Leaves s m) z v h is = subst (λ q. (ts : ℕ → Option (Alive Both)) × BlockEffect 0 (with_threads w vs) q (with_threads v ts)
        × (v.end ≡ None → Lone c v.threads ts)) (sym h.1)
        (subst (λ q. (ts : ℕ → Option (Alive Both)) × (with_threads q ts ≡ record (with_threads w vs) { memory = m; threads = update vs 0 (alive h.0) })
        × (q.end ≡ None → Lone c q.threads ts)) (sym is)
        (update vs 0 (alive h.0), refl, λ i. goes_lone c s h.0 false h.2))

    block : (c : ℕ) (s : S) (r : Both) (kind : BlockKind) (v : World S) → Alike (c + 1) (a.after s Nothing) ((tallied b).after r Nothing)
        → (d : EventStep a p 0 w s (BeginAtomic kind) v) → Lifts (c + event_cost a p 0 w s (BeginAtomic kind) v d) w vs r (BeginAtomic kind) v
    block c s r kind v h d =
        let i = d.1.last in
        let e = a.next i.state in
        let x = c + 1 + inside_cost d.1.run in
        let run = runs_inside (c + 1) (a.after s Nothing) ((tallied b).after r Nothing) w.memory h d.1.run in
        let loud = loud_last e w i v d.2 in
        let n = meet a b limit grows x i.state run.0 e run.2 refl loud in
        let k = took_by x ((tallied b).after r Nothing) w.memory i run.0 e run.1 n loud in
        let last = landed (x + 1) (inner_by a p i e) (inner_by (tallied b) p (with_state i n.at) (b.next n.at.0)) v k.1 d.2 in
        subst (λ z. Lifts z w vs r (BeginAtomic kind) v) (block_cost c (inside_cost d.1.run)) (
          last.0,
          (
            d.0,
            record {
              last = with_state i n.at;
              run = k.0;
              over = is_landed (with_threads w vs) (inner_by (tallied b) p (with_state i n.at) (b.next n.at.0)) (with_threads v last.0) last.1;
            },
            last.1,
          ),
          subst (λ z. Fits (x + 1) (tally_in z n.at.1)) (sym n.is) n.fits,
          last.2,
        )

    lifts : (c : ℕ) (s : S) (r : Both) (e : Event) (v : World S) → is_spawn e ≡ false → Fits (c + 1) (tally_in e r.1)
        → ((x : Reply) → Answers e x → Alike (c + 1) (a.after s x) ((tallied b).after r x)) → (d : EventStep a p 0 w s e v)
        → Lifts (c + event_cost a p 0 w s e v d) w vs r e v
    lifts c s r Silent v q f h d = absurd d
    lifts c s r EndAtomic v q f h d = absurd d
    lifts c s r (Raise kind can) v q f h d = absurd d
    lifts c s r (Spawn g x) v q f h d = absurd (true≢false q)
    lifts c s r (BeginAtomic kind) v q f h d = block c s r kind v (h Nothing refl) d
    lifts c s r (Load addr size vol) v q f h d =
        let x = Loaded (read_at addr size (w.memory (word_of addr))) in
        subst (λ z. Lifts (c + 1) w vs r (Load addr size vol) z) (sym d)
        (either_lifts (c + 1) (Fits (c + 1) (tally_in (Load addr size vol) r.1)) (can_access p addr size) (goes 0 w (a.after s x)) (ends w (Trapped BadAddress))
        (goes 0 (with_threads w vs) ((tallied b).after r x)) (ends (with_threads w vs) (Trapped BadAddress)) (
          update vs 0 (alive ((tallied b).after r x)),
          refl,
          f,
          λ i. goes_lone (c + 1) (a.after s x) ((tallied b).after r x) false (h x (read_fits addr size (w.memory (word_of addr)))),
        )
        (vs, refl, f, λ i. no_end (Trapped BadAddress) i))
    lifts c s r (Store addr size value vol) v q f h d =
        let m = update w.memory (word_of addr) (merge addr size value (w.memory (word_of addr))) in
        subst (λ z. Lifts (c + 1) w vs r (Store addr size value vol) z) (sym d)
        (either_lifts (c + 1) (Fits (c + 1) (tally_in (Store addr size value vol) r.1)) (can_access p addr size)
        (record w { memory = m; threads = update w.threads 0 (alive (a.after s Nothing)) }) (ends w (Trapped BadAddress))
        (record (with_threads w vs) { memory = m; threads = update vs 0 (alive ((tallied b).after r Nothing)) }) (ends (with_threads w vs) (Trapped BadAddress)) (
          update vs 0 (alive ((tallied b).after r Nothing)),
          refl,
          f,
          λ i. goes_lone (c + 1) (a.after s Nothing) ((tallied b).after r Nothing) false (h Nothing refl),
        )
        (vs, refl, f, λ i. no_end (Trapped BadAddress) i))
    lifts c s r (Out x) v q f h d = subst (λ z. Lifts (c + 1) w vs r (Out x) z) (sym d) (
      update vs 0 (alive ((tallied b).after r Nothing)),
      refl,
      f,
      λ i. goes_lone (c + 1) (a.after s Nothing) ((tallied b).after r Nothing) false (h Nothing refl),
    )
    lifts c s r Inp v q f h d = subst (λ z. Lifts (c + 1) w vs r Inp z) (sym d) (
      update vs 0 (alive ((tallied b).after r (Byte (byte_of w.input)))),
      refl,
      f,
      λ i. goes_lone (c + 1) (a.after s (Byte (byte_of w.input))) ((tallied b).after r (Byte (byte_of w.input))) false
          (h (Byte (byte_of w.input)) (byte_int w.input)),
    )
    lifts c s r (Join id) v q f h d =
        let is : v ≡ ends w (Trapped BadJoin) = subst (λ o. Joins 0 w (a.after s Nothing) o v) (no_target w.threads others id) d in
        subst (λ z. Lifts (c + 1) w vs r (Join id) z) (sym is) (
          vs,
          subst (λ o. Joins 0 (with_threads w vs) ((tallied b).after r Nothing) o (with_threads (ends w (Trapped BadJoin)) vs)) (sym (no_target vs absent id)) refl,
          f,
          λ i. no_end (Trapped BadJoin) i,
        )
    lifts c s r BeginSync v q f h d = subst (λ z. Lifts (c + 1) w vs r BeginSync z) (sym d.1) (
      update vs 0 (alive ((tallied b).after r Nothing)),
      (d.0, refl),
      f,
      λ i. goes_lone (c + 1) (a.after s Nothing) ((tallied b).after r Nothing) false (h Nothing refl),
    )
    lifts c s r EndSync v q f h d = subst (λ z. Lifts (c + 1) w vs r EndSync z) (sym d) (
      update vs 0 (alive ((tallied b).after r Nothing)),
      refl,
      f,
      λ i. goes_lone (c + 1) (a.after s Nothing) ((tallied b).after r Nothing) false (h Nothing refl),
    )
    lifts c s r Done v q f h d = subst (λ z. Lifts (c + 1) w vs r Done z) (sym d) (
      update vs 0 (Some (record { state = (tallied b).after r Nothing; ended = true })),
      refl,
      f,
      λ i. goes_lone (c + 1) (a.after s Nothing) ((tallied b).after r Nothing) true (h Nothing refl),
    )
    lifts c s r (Stop e) v q f h d = subst (λ z. Lifts (c + 1) w vs r (Stop e) z) (sym d) (vs, refl, f, λ i. no_end e i)

  partner : (c : ℕ) (o : Option (Alive S)) (q : Option (Alive Both)) → SameAlive c o q → (s : S) → o ≡ alive s → (r : Both) × (q ≡ alive r) × Alike c s r
  partner c None q h s e = absurd h
  partner c (Some x) None h s e = absurd h
  partner c (Some x) (Some y) h s e =
      let i : x ≡ record { state = s; ended = false } = cc in
      (y.state, ap (λ k. Some (record { state = y.state; ended = k })) (h.0 ∙ ap (λ z. z.ended) i), subst (λ z. Alike c z y.state) (ap (λ z. z.state) i) h.1)

  -- a step of the one world is a step of the other
  record Stepped (c t : ℕ) (w : World S) (vs : ℕ → Option (Alive Both)) (v : World S) : Type 0 where
    threads : ℕ → Option (Alive Both)
    step : Step (tallied b) p t (with_threads w vs) (with_threads v threads)
    quiet : is_spawn (b.next step.before.0) ≡ false
    fits : Fits c (tally_at b p t (with_threads w vs) step.before (b.next step.before.0) (with_threads v threads) step.does)
    lone : v.end ≡ None → Lone c v.threads threads

  module _ (c : ℕ) (w : World S) (vs : ℕ → Option (Alive Both)) (h : w.end ≡ None → Lone c w.threads vs) where
    first_steps : (v : World S) (d : Step a p 0 w v) → is_spawn (a.next d.before) ≡ false → Stepped (c + step_cost a p 0 w v d) 0 w vs v
    first_steps v d q =
        let l = h d.going in
        let y = partner c (w.threads 0) (vs 0) l.first d.from d.is in
        let x = c + silent_cost d.silents in
        let same = past_silents a b limit grows c d.from y.0 y.2 d.silents in
        let e = a.next d.before in
        let n = meet a b limit grows x d.before y.0 e same refl (loud_does a p 0 w d.before e v d.does) in
        let k = subst (λ z. Lifts z w vs n.at e v) (step_sum c (silent_cost d.silents) (event_cost a p 0 w d.before e v d.does))
        (lifts w vs l.others l.absent x d.before n.at e v q n.fits n.alike d.does) in
        let m = subst (λ z. Lifts (c + step_cost a p 0 w v d) w vs n.at z v) (sym n.is) k in
        record {
          threads = m.0;
          step = record { going = d.going; from = y.0; before = n.at; is = y.1; silents = n.silents; does = m.1 };
          quiet = ap is_spawn n.is ∙ q;
          fits = m.2;
          lone = m.3;
        }

    -- no other thread is there
    steps_on : (t : ℕ) (v : World S) (d : Step a p t w v) → is_spawn (a.next d.before) ≡ false → Stepped (c + step_cost a p t w v d) t w vs v
    steps_on t v d q = elim (t == 0) as (λ k. (t == 0) ≡ k → Stepped (c + step_cost a p t w v d) t w vs v) [
      | true ↦ λ e. subst (λ z. (d : Step a p z w v) → is_spawn (a.next d.before) ≡ false → Stepped (c + step_cost a p z w v d) z w vs v)
          (sym (eqb-true t 0 e)) (first_steps v) d q
      | false ↦ λ e. no_thread (w.threads t) (record { state = d.from; ended = false }) ((h d.going).others t e) d.is
    ] refl

  -- and so are any steps
  pub record Lifted (n : ℕ) (w : World S) (vs : ℕ → Option (Alive Both)) (order : List ℕ) (v : World S) : Type 0 where
    pub threads : ℕ → Option (Alive Both)
    pub replays : Replays (tallied b) p (with_threads w vs) order (with_threads v threads)
    pub at_most : AtMost b p (limit n) n (with_threads w vs) order (with_threads v threads) replays

  module _ (n : ℕ) (mono : (x y : ℕ) → x ≤ y → limit x ≤ limit y) where
    lifted : (order : List ℕ) (c : ℕ) (w v : World S) (vs : ℕ → Option (Alive Both)) → (w.end ≡ None → Lone c w.threads vs) → (h : Replays a p w order v)
        → SpawnsNothing a p w order v h → c + cost a p w order v h ≤ n → Lifted n w vs order v
    lifted [] c w v vs lone h q few = record { threads = vs; replays = ap (λ z. with_threads z vs) h; at_most = tt }
    lifted (t ∷ order) c w v vs lone h q few =
        let one = steps_on c w vs lone t h.0 h.1 q.0 in
        let x = step_cost a p t w h.0 h.1 in
        let y = cost a p h.0 order v h.2 in
        let rest = lifted order (c + x) h.0 v one.threads one.lone h.2 q.1 (rest_within c x y n few) in
        let here = here_within c x y n few in
        let tally = tally_at b p t (with_threads w vs) one.step.before (b.next one.step.before.0) (with_threads h.0 one.threads) one.step.does in
        record {
          threads = rest.threads;
          replays = (with_threads h.0 one.threads, one.step, rest.replays);
          at_most = (
            one.quiet,
            le_through tally.steps (limit (c + x)) (limit n) one.fits.0 (mono (c + x) n here),
            le_through tally.accesses (c + x) n one.fits.1 here,
            rest.at_most,
          );
        }

-- ---- from the start

module _ (many more : ℕ) (some : 1 ≤ many) where
  abbrev pub limit_at : ℕ → ℕ
  limit_at c = many * c + more

  times_one : many * 1 ≡ many
  times_one = omega arith

  pub limit_grows : (c : ℕ) → limit_at c + 1 ≤ limit_at (c + 1)
  limit_grows c =
      let both : many * (c + 1) ≡ many * c + many = mul-add many c 1 ∙ ap (λ z. many * c + z) times_one in
      omega (arith, both, some)

  pub limit_rises : (x y : ℕ) → x ≤ y → limit_at x ≤ limit_at y
  limit_rises x y h = let more = mul-le-mul_left many h in omega (arith, more)

  module _ {S T : Type 0} (a : Thread S) (b : Thread T) (main : S) (main' : T) (same : SameEvents a b main main')
      (within : StepsWithin a b many more main main') where
    first_alike : alike.Alike a b limit_at limit_grows 0 main (main', no_tally)
    first_alike = record {
      events = same;
      within = λ rs v i f g. le_first (steps b g.reaches) (limit_at (0 + steps a f.reaches))
          (subst (λ z. steps b g.reaches ≤ limit_at z) (sum_first (steps a f.reaches)) (within rs v i f g));
      accesses = omega arith;
    }

    -- The replay has a replay of the other thread beside it, whose tally is within the bound.
    pub alone_lifts : (p : MemoryLayout) (memory : ℕ → ℕ) (input : List ℕ) (n : ℕ) (order : List ℕ) (v : World S)
        → (h : Replays a p (first_world memory input main) order v) → SpawnsNothing a p (first_world memory input main) order v h
        → cost a p (first_world memory input main) order v h ≤ n
        → Lifted a b limit_at limit_grows p n (first_world memory input main) (only_first (main', no_tally)) order v
    alone_lifts p memory input n order v h q few =
        lifted a b limit_at limit_grows p n limit_rises order 0 (first_world memory input main) v (only_first (main', no_tally))
        (λ i. record { first = (refl, first_alike); others = first_alone main; absent = first_alone (main', no_tally) }) h q
        (le_first (cost a p (first_world memory input main) order v h) n few)
