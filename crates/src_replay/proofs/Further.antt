-- Threads that have come further by silent steps: what is enabled there, and what an event does there.
use Rattle.std.proofs.Common.{ℕ, ℤ, pos, negsuc, ◌≡◌, ◌==◌, ◌<◌, ◌+◌, ◌||◌, Bool, true, false, not, cond, Option, Some, None, List, [], ◌∷◌, ◌++◌, refl, ap}
use Rattle.std.proofs.Common.{sym, ◌∙◌, subst, arith}
use Rattle.std.specs.Prelude.{nat_lt}
use Rattle.std.proofs.lemmas.Bool.{eq-eqb, eqb-true, ltb-true, ltb-false, false≢true}
use Rattle.tx_events.specs.declared.End.{End}
use Rattle.tx_events.specs.declared.End.TheVariants.{Trapped}
use Rattle.tx_events.specs.declared.Trap.TheVariants.{BadAddress, BadJoin, TooManyThreads}
use Rattle.tx_events.specs.declared.Event.{Event}
use Rattle.tx_events.specs.declared.Event.TheVariants.{Silent, Load, Store, Out, Inp, Spawn, Join, BeginAtomic, EndAtomic, Raise, BeginSync, EndSync, Done}
use Rattle.tx_events.specs.declared.Event.TheVariants.{Stop}
use Rattle.tx_events.specs.declared.Reply.TheVariants.{Nothing, Loaded, Byte, Id}
use Rattle.tx_events.specs.Memory.{MemoryLayout, update, can_access, load, store}
use Rattle.tx_events.specs.Thread.{Thread}
use Rattle.tx_events.specs.Alone.{BlockStep, Goes, Leaves, Halts, Never, outcome}
use Rattle.tx_events.specs.World.{World, Alive, alive, ends, lock_in, lock_out, byte_of, input_after, SilentSteps, none, one_more, EventStep, BlockEffect}
use Rattle.tx_events.specs.World.{Joins, target}
use Rattle.src_mean.specs.Cost.{silent_cost, event_cost}
use Rattle.src_replay.specs.Entries.{is_enabled, is_joinable, is_going}
use Rattle.src_replay.specs.LoneRuns.{event_events}
use Rattle.src_replay.specs.Turns.{AheadAt, AllAhead}

-- both have ended, or none
abbrev same_ended : {S : Type 0} → Option (Alive S) → Option (Alive S) → Type 0
same_ended None None = Unit {0}
same_ended (Some x) (Some y) = x.ended ≡ y.ended
same_ended o q = ⊥

module _ {S : Type 0} (a : Thread S) where
  -- silent steps behind silent steps
  pub record Joined (s u : S) (n : ℕ) : Type 0 where
    pub steps : SilentSteps a s u
    pub cost : silent_cost steps ≡ n

  pub joined : (s m u : S) (x : SilentSteps a s m) (y : SilentSteps a m u) → Joined s u (silent_cost x + silent_cost y)
  joined s m u x none = record { steps = x; cost = omega arith }
  joined s m u x (one_more {r} y e) = let j = joined s m r x y in record { steps = one_more j.steps e; cost = omega (arith, j.cost) }

  -- the first so many of them, behind which another one comes
  pub record Cut (s : S) (n : ℕ) : Type 0 where
    pub here : S
    pub steps : SilentSteps a s here
    pub cost : silent_cost steps ≡ n
    pub silent : a.next here ≡ Silent

  cut_by : (s q : S) (x : SilentSteps a s q) (n : ℕ) → a.next q ≡ Silent → n < silent_cost x + 1 → (n < silent_cost x → Cut s n) → (b : Bool)
      → nat_lt n (silent_cost x) ≡ b → Cut s n
  cut_by s q x n e h more true l = more (ltb-true n (silent_cost x) l)
  cut_by s q x n e h more false l = record { here = q; steps = x; cost = omega (arith, h, ltb-false n (silent_cost x) l); silent = e }

  pub cut : (s u : S) (x : SilentSteps a s u) (n : ℕ) → n < silent_cost x → Cut s n
  cut s u none n h = absurd (omega (arith, h))
  cut s u (one_more {r} x e) n h = cut_by s r x n e h (cut s r x n) (nat_lt n (silent_cost x)) refl

  ended_of : (o q : Option (Alive S)) (n : ℕ) → AheadAt a o q n → same_ended o q
  ended_of None None n h = tt
  ended_of (Some x) (Some y) n h = h.ended
  ended_of None (Some y) n h = h
  ended_of (Some x) None n h = h

  joinable_same : (o q : Option (Alive S)) → same_ended o q → is_joinable q ≡ is_joinable o
  joinable_same None None h = refl
  joinable_same (Some x) (Some y) h = sym h
  joinable_same None (Some y) h = absurd h
  joinable_same (Some x) None h = absurd h

  pub going_same : (o q : Option (Alive S)) (n : ℕ) → AheadAt a o q n → is_going q ≡ is_going o
  going_same None None n h = refl
  going_same (Some x) (Some y) n h = ap not (sym h.ended)
  going_same None (Some y) n h = absurd h
  going_same (Some x) None n h = absurd h

  -- a thread stands where it stands
  pub at_place : (x : Alive S) (n : ℕ) → n ≡ 0 → AheadAt a (Some x) (Some x) n
  at_place x n e = record { steps = none; cost = sym e; ended = refl }

  pub at_first : (f : ℕ → Option (Alive S)) (ns : ℕ → ℕ) → ((k : ℕ) → ns k ≡ 0) → AllAhead a f f ns
  at_first f ns h k = at (f k)
    where
      at : (o : Option (Alive S)) → AheadAt a o o (ns k)
      at None = h k
      at (Some x) = at_place x (ns k) (h k)

  none_ahead : (o : Option (Alive S)) (n : ℕ) → AheadAt a o None n → n ≡ 0
  none_ahead None n h = h
  none_ahead (Some x) n h = absurd h

  -- the world v is behind this one, whose threads have come further; where the program has ended, output and end alone are the same
  pub record Behind (ns : ℕ → ℕ) (v u : World S) : Type 0 where
    pub end_is : u.end ≡ v.end
    pub out_is : u.out ≡ v.out
    pub same : u.end ≡ None → u ≡ record v { threads = u.threads }
    pub each : u.end ≡ None → AllAhead a v.threads u.threads ns

  ended_both : (ns : ℕ → ℕ) (v u : World S) (end : End) → u.out ≡ v.out → Behind ns (ends v end) (ends u end)
  ended_both ns v u end e = record {
    end_is = refl;
    out_is = e;
    same = λ h. let no : Some end ≡ None = h in absurd cc;
    each = λ h. let no : Some end ≡ None = h in absurd cc;
  }

  module _ (p : MemoryLayout) (t : ℕ) (w : World S) (g : ℕ → Option (Alive S)) (ns : ℕ → ℕ)
      (others : (k : ℕ) → (k ≡ t → ⊥) → AheadAt a (w.threads k) (g k) (ns k)) where
    target_ended : (id : ℤ) → same_ended (target t id w.threads) (target t id g)
    target_ended (negsuc n) = tt
    target_ended (pos n) = at (n == 0) (n == t) refl
      where
        at : (z b : Bool) → (n == t) ≡ b → same_ended (cond (z || b) None (w.threads n)) (cond (z || b) None (g n))
        at true b e = tt
        at false true e = tt
        at false false e = ended_of (w.threads n) (g n) (ns n) (others n (λ q. false≢true (sym e ∙ eq-eqb n t q)))

    -- what is enabled
    pub enabled_further : (e : Event) → is_enabled t (record w { threads = g }) e ≡ is_enabled t w e
    enabled_further (Join id) = joinable_same (target t id w.threads) (target t id g) (target_ended id)
    enabled_further (BeginAtomic kind) = refl
    enabled_further BeginSync = refl
    enabled_further (Load addr size volatile) = refl
    enabled_further (Store addr size value volatile) = refl
    enabled_further (Out byte) = refl
    enabled_further Inp = refl
    enabled_further (Spawn func arg) = refl
    enabled_further EndSync = refl
    enabled_further Done = refl
    enabled_further (Stop end) = refl
    enabled_further Silent = refl
    enabled_further EndAtomic = refl
    enabled_further (Raise kind cancels) = refl

    module _ (own : ns t ≡ 0) where
      -- thread t goes to one place, in both
      set_both : (f h : ℕ → Option (Alive S)) (x : Alive S) → ((k : ℕ) → (k ≡ t → ⊥) → AheadAt a (f k) (h k) (ns k))
          → AllAhead a (update f t (Some x)) (update h t (Some x)) ns
      set_both f h x far k = at (k == t) refl
        where
          at : (b : Bool) → (k == t) ≡ b → AheadAt a (cond b (Some x) (f k)) (cond b (Some x) (h k)) (ns k)
          at true e = at_place x (ns k) (ap ns (eqb-true k t e) ∙ own)
          at false e = far k (λ q. false≢true (sym e ∙ eq-eqb k t q))

      going_both : (z : World S) (x : Alive S) → Behind ns (record z { threads = update w.threads t (Some x) }) (record z { threads = update g t (Some x) })
      going_both z x = record { end_is = refl; out_is = refl; same = λ h. refl; each = λ h. set_both w.threads g x others }

      starting_both : (z : World S) (x c : Alive S) (n : ℕ) → ns n ≡ 0
          → Behind ns (record z { threads = update (update w.threads n (Some c)) t (Some x) }) (record z { threads = update (update g n (Some c)) t (Some x) })
      starting_both z x c n e = record {
        end_is = refl;
        out_is = refl;
        same = λ h. refl;
        each = λ h. set_both (update w.threads n (Some c))
            (update g n (Some c)) x (λ k far. at k far (k == n) refl);
      }
        where
          at : (k : ℕ) → (k ≡ t → ⊥) → (b : Bool) → (k == n) ≡ b → AheadAt a (cond b (Some c) (w.threads k)) (cond b (Some c) (g k)) (ns k)
          at k far true q = at_place c (ns k) (ap ns (eqb-true k n q) ∙ e)
          at k far false q = others k far

      -- one of two
      either_both : (b : Bool) (x y u v z : World S) → Behind ns x u → Behind ns y v → z ≡ cond b u v → Behind ns (cond b x y) z
      either_both true x y u v z h k e = subst (λ q. Behind ns x q) (sym e) h
      either_both false x y u v z h k e = subst (λ q. Behind ns y q) (sym e) k

      along : (x u z : World S) → Behind ns x u → z ≡ u → Behind ns x z
      along x u z h e = subst (λ q. Behind ns x q) (sym e) h

      -- a join
      record JoinsBehind (s : S) (o : Option (Alive S)) (u : World S) : Type 0 where
        pub world : World S
        pub joins : Joins t w s o world
        pub behind : Behind ns world u

      joins_both : (s : S) (o q : Option (Alive S)) (u : World S) → same_ended o q → Joins t (record w { threads = g }) s q u → JoinsBehind s o u
      joins_both s None None u h d = record {
        world = ends w (Trapped BadJoin);
        joins = refl;
        behind = along (ends w (Trapped BadJoin))
            (ends (record w { threads = g }) (Trapped BadJoin)) u (ended_both ns w (record w { threads = g }) (Trapped BadJoin) refl) d;
      }
      joins_both s (Some x) (Some y) u h d = record {
        world = record w { threads = update w.threads t (alive s) };
        joins = (h ∙ d.0, refl);
        behind = along (record w { threads = update w.threads t (alive s) }) (record w { threads = update g t (alive s) }) u
            (going_both w (record { state = s; ended = false })) d.1;
      }
      joins_both s None (Some y) u h d = absurd h
      joins_both s (Some x) None u h d = absurd h

      -- a block
      record BlockBehind (y : BlockStep S) (u : World S) : Type 0 where
        pub world : World S
        pub lands : BlockEffect t w y world
        pub behind : Behind ns world u

      block_both : (y : BlockStep S) (u : World S) → BlockEffect t (record w { threads = g }) y u → BlockBehind y u
      block_both (Goes i) u d = absurd d
      block_both Never u d = absurd d
      block_both (Leaves s memory) u d = record {
        world = record w { memory = memory; threads = update w.threads t (alive s) };
        lands = refl;
        behind = along (record w { memory = memory; threads = update w.threads t (alive s) }) (record w { memory = memory; threads = update g t (alive s) }) u
            (going_both (record w { memory = memory }) (record { state = s; ended = false })) d;
      }
      block_both (Halts end) u d = record {
        world = ends w end;
        lands = refl;
        behind = along (ends w end) (ends (record w { threads = g }) end) u
            (ended_both ns w (record w { threads = g }) end refl) d;
      }

      -- what an event does further on it does here, with the same cost and events
      pub record Carried (s : S) (e : Event) (u : World S) (n : ℕ) (came : List Event) : Type 0 where
        pub world : World S
        pub does : EventStep a p t w s e world
        pub cost : event_cost a p t w s e world does ≡ n
        pub tells : event_events a p t w s e world does ≡ came
        pub behind : Behind ns world u

      pub carried : (s : S) (e : Event) (u : World S) (d : EventStep a p t (record w { threads = g }) s e u) → g w.started ≡ None
          → AheadAt a (w.threads w.started) (g w.started) (ns w.started)
          → Carried s e u (event_cost a p t (record w { threads = g }) s e u d) (event_events a p t (record w { threads = g }) s e u d)
      carried s (Load addr size volatile) u d free last =
          let r = a.after s (Loaded (load w.memory addr size)) in
          record {
            world = cond (can_access p addr size) (record w { threads = update w.threads t (alive r) }) (ends w (Trapped BadAddress));
            does = refl;
            cost = refl;
            tells = refl;
            behind = either_both (can_access p addr size) (record w { threads = update w.threads t (alive r) }) (ends w (Trapped BadAddress))
                (record w { threads = update g t (alive r) }) (ends (record w { threads = g }) (Trapped BadAddress)) u
                (going_both w (record { state = r; ended = false })) (ended_both ns w (record w { threads = g }) (Trapped BadAddress) refl) d;
          }
      carried s (Store addr size value volatile) u d free last =
          let r = a.after s Nothing in
          let z : World S = record w { memory = store w.memory addr size value } in
          record {
            world = cond (can_access p addr size) (record z { threads = update w.threads t (alive r) }) (ends w (Trapped BadAddress));
            does = refl;
            cost = refl;
            tells = refl;
            behind = either_both (can_access p addr size) (record z { threads = update w.threads t (alive r) }) (ends w (Trapped BadAddress))
                (record z { threads = update g t (alive r) }) (ends (record w { threads = g }) (Trapped BadAddress)) u
                (going_both z (record { state = r; ended = false })) (ended_both ns w (record w { threads = g }) (Trapped BadAddress) refl) d;
          }
      carried s (Out byte) u d free last =
          let x : Alive S = record { state = a.after s Nothing; ended = false } in
          let z : World S = record w { out = w.out ++ byte ∷ [] } in
          record {
            world = record z { threads = update w.threads t (Some x) };
            does = refl;
            cost = refl;
            tells = refl;
            behind =
                along (record z { threads = update w.threads t (Some x) }) (record z { threads = update g t (Some x) }) u (going_both z x) d;
          }
      carried s Inp u d free last =
          let x : Alive S = record { state = a.after s (Byte (byte_of w.input)); ended = false } in
          let z : World S = record w { input = input_after w.input } in
          record {
            world = record z { threads = update w.threads t (Some x) };
            does = refl;
            cost = refl;
            tells = refl;
            behind =
                along (record z { threads = update w.threads t (Some x) }) (record z { threads = update g t (Some x) }) u (going_both z x) d;
          }
      carried s (Spawn func arg) u d free last =
          let x : Alive S = record { state = a.after s (Id (pos w.started)); ended = false } in
          let c : Alive S = record { state = a.child s w.started func arg; ended = false } in
          let z : World S = record w { started = w.started + 1 } in
          let zero_there : ns w.started ≡ 0 = none_ahead (w.threads w.started) (ns w.started)
          (subst (λ q. AheadAt a (w.threads w.started) q (ns w.started)) free last) in
          record {
            world = cond (nat_lt w.started p.limit) (record z { threads = update (update w.threads w.started (Some c)) t (Some x) })
                (ends w (Trapped TooManyThreads));
            does = refl;
            cost = refl;
            tells = refl;
            behind = either_both (nat_lt w.started p.limit) (record z { threads = update (update w.threads w.started (Some c)) t (Some x) })
                (ends w (Trapped TooManyThreads)) (record z { threads = update (update g w.started (Some c)) t (Some x) })
                (ends (record w { threads = g }) (Trapped TooManyThreads)) u (starting_both z x c w.started zero_there)
                (ended_both ns w (record w { threads = g }) (Trapped TooManyThreads) refl) d;
          }
      carried s (Join id) u d free last =
          let j = joins_both (a.after s Nothing) (target t id w.threads) (target t id g) u (target_ended id) d in
          record { world = j.world; does = j.joins; cost = refl; tells = refl; behind = j.behind }
      carried s BeginSync u d free last =
          let x : Alive S = record { state = a.after s Nothing; ended = false } in
          let z : World S = record w { lock = lock_in t w.lock } in
          record {
            world = record z { threads = update w.threads t (Some x) };
            does = (d.0, refl);
            cost = refl;
            tells = refl;
            behind =
                along (record z { threads = update w.threads t (Some x) }) (record z { threads = update g t (Some x) }) u (going_both z x) d.1;
          }
      carried s EndSync u d free last =
          let x : Alive S = record { state = a.after s Nothing; ended = false } in
          let z : World S = record w { lock = lock_out w.lock } in
          record {
            world = record z { threads = update w.threads t (Some x) };
            does = refl;
            cost = refl;
            tells = refl;
            behind =
                along (record z { threads = update w.threads t (Some x) }) (record z { threads = update g t (Some x) }) u (going_both z x) d;
          }
      carried s Done u d free last =
          let x : Alive S = record { state = a.after s Nothing; ended = true } in
          record {
            world = record w { threads = update w.threads t (Some x) };
            does = refl;
            cost = refl;
            tells = refl;
            behind =
                along (record w { threads = update w.threads t (Some x) }) (record w { threads = update g t (Some x) }) u (going_both w x) d;
          }
      carried s (Stop end) u d free last = record {
        world = ends w end;
        does = refl;
        cost = refl;
        tells = refl;
        behind = along (ends w end)
            (ends (record w { threads = g }) end) u (ended_both ns w (record w { threads = g }) end refl) d;
      }
      carried s (BeginAtomic kind) u d free last =
          let b = block_both (outcome d.1) u d.2 in
          record { world = b.world; does = (d.0, d.1, b.lands); cost = refl; tells = refl; behind = b.behind }
      carried s Silent u d free last = absurd d
      carried s EndAtomic u d free last = absurd d
      carried s (Raise kind cancels) u d free last = absurd d
