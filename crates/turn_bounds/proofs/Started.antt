-- Where no thread but the first was started, none was spawned.
use Rattle.std.proofs.Common.{ℕ, ◌≡◌, ◌≤◌, ◌<◌, ◌+◌, Bool, true, false, cond, refl, ap, sym, ◌∙◌, subst, List, [], ◌∷◌, Option, Some, None, arith}
use Rattle.std.specs.Prelude.{nat_lt}
use Rattle.std.proofs.lemmas.Bool.{false≢true, true≢false}
use Rattle.std.proofs.lemmas.Bool.Decides.{Decides-ltb}
use Rattle.tx_events.specs.declared.Event.{Event}
use Rattle.tx_events.specs.declared.Event.TheVariants.{Silent, Load, Store, Out, Inp, Spawn, Join, BeginAtomic, EndAtomic, Raise, BeginSync, EndSync, Done}
use Rattle.tx_events.specs.declared.Event.TheVariants.{Stop}
use Rattle.tx_events.specs.declared.Reply.TheVariants.{Nothing}
use Rattle.tx_events.specs.Thread.{Thread}
use Rattle.tx_events.specs.Memory.{MemoryLayout, can_access}
use Rattle.tx_events.specs.Alone.{BlockStep, Goes, Leaves, Halts, Never, outcome}
use Rattle.tx_events.specs.World.{Alive, World, Step, Replays, EventStep, BlockEffect, Joins, target}
use Rattle.tx_serial.specs.Bound.{is_spawn}
use Rattle.turn_bounds.specs.Alone.{SpawnsNothing}

spawn_fits : (n limit : ℕ) → n ≡ 1 → 2 ≤ limit → n < limit
spawn_fits n limit e h = omega (arith, e, h)

never_two : {P : Type 0} (n m v : ℕ) → n ≡ 1 → m ≡ n + 1 → m ≤ v → v ≡ 1 → P
never_two n m v e f h g = let no : ⊥ = omega (arith, e, f, h, g) in absurd no

le_equal : (n m : ℕ) → m ≡ n → n ≤ m
le_equal n m e = omega (arith, e)

le_two : (x y z : ℕ) → x ≤ y → y ≤ z → x ≤ z
le_two x y z h g = omega (arith, h, g)

module _ {S : Type 0} (a : Thread S) (p : MemoryLayout) where
  either_same : (k : Bool) (n : ℕ) (x y : World S) → x.started ≡ n → y.started ≡ n → (cond k x y).started ≡ n
  either_same true n x y h g = h
  either_same false n x y h g = g

  either_started : (k : Bool) (x y : World S) → (cond k x y).started ≡ cond k x.started y.started
  either_started true x y = refl
  either_started false x y = refl

  block_same : (t : ℕ) (w : World S) (y : BlockStep S) (v : World S) → BlockEffect t w y v → v.started ≡ w.started
  block_same t w (Goes i) v d = absurd d
  block_same t w Never v d = absurd d
  block_same t w (Leaves s m) v d = ap (λ z. z.started) d
  block_same t w (Halts e) v d = ap (λ z. z.started) d

  join_same : (t : ℕ) (w : World S) (s : S) (o : Option (Alive S)) (v : World S) → Joins t w s o v → v.started ≡ w.started
  join_same t w s None v d = ap (λ z. z.started) d
  join_same t w s (Some u) v d = ap (λ z. z.started) d.1

  -- an event that is no Spawn starts no thread
  pub event_same : (t : ℕ) (w : World S) (s : S) (e : Event) (v : World S) → is_spawn e ≡ false → EventStep a p t w s e v → v.started ≡ w.started
  event_same t w s Silent v q d = absurd d
  event_same t w s EndAtomic v q d = absurd d
  event_same t w s (Raise kind can) v q d = absurd d
  event_same t w s (Load addr size vol) v q d = ap (λ z. z.started) d ∙ either_same (can_access p addr size) w.started _ _ refl refl
  event_same t w s (Store addr size value vol) v q d = ap (λ z. z.started) d ∙ either_same (can_access p addr size) w.started _ _ refl refl
  event_same t w s (Out c) v q d = ap (λ z. z.started) d
  event_same t w s Inp v q d = ap (λ z. z.started) d
  event_same t w s (Spawn g x) v q d = absurd (true≢false q)
  event_same t w s (Join id) v q d = join_same t w (a.after s Nothing) (target t id w.threads) v d
  event_same t w s BeginSync v q d = ap (λ z. z.started) d.1
  event_same t w s EndSync v q d = ap (λ z. z.started) d
  event_same t w s Done v q d = ap (λ z. z.started) d
  event_same t w s (Stop e) v q d = ap (λ z. z.started) d
  event_same t w s (BeginAtomic kind) v q d = block_same t w (outcome d.1) v d.2

  -- a Spawn starts one, below the limit
  spawn_is : (t : ℕ) (w : World S) (s : S) (e : Event) (v : World S) → is_spawn e ≡ true → EventStep a p t w s e v
      → v.started ≡ cond (nat_lt w.started p.limit) (w.started + 1) w.started
  spawn_is t w s (Spawn g x) v q d = ap (λ z. z.started) d ∙ either_started (nat_lt w.started p.limit) _ _
  spawn_is t w s Silent v q d = absurd (false≢true q)
  spawn_is t w s EndAtomic v q d = absurd (false≢true q)
  spawn_is t w s (Raise kind can) v q d = absurd (false≢true q)
  spawn_is t w s (Load addr size vol) v q d = absurd (false≢true q)
  spawn_is t w s (Store addr size value vol) v q d = absurd (false≢true q)
  spawn_is t w s (Out c) v q d = absurd (false≢true q)
  spawn_is t w s Inp v q d = absurd (false≢true q)
  spawn_is t w s (Join id) v q d = absurd (false≢true q)
  spawn_is t w s BeginSync v q d = absurd (false≢true q)
  spawn_is t w s EndSync v q d = absurd (false≢true q)
  spawn_is t w s Done v q d = absurd (false≢true q)
  spawn_is t w s (Stop e) v q d = absurd (false≢true q)
  spawn_is t w s (BeginAtomic kind) v q d = absurd (false≢true q)

  more_or_same : (k : Bool) (n : ℕ) → n ≤ cond k (n + 1) n
  more_or_same true n = omega arith
  more_or_same false n = omega arith

  event_le : (t : ℕ) (w : World S) (s : S) (e : Event) (v : World S) → EventStep a p t w s e v → w.started ≤ v.started
  event_le t w s e v d = elim (is_spawn e) as (λ k. is_spawn e ≡ k → w.started ≤ v.started) [
    | true ↦ λ q. subst (λ z. w.started ≤ z) (sym (spawn_is t w s e v q d)) (more_or_same (nat_lt w.started p.limit) w.started)
    | false ↦ λ q. le_equal w.started v.started (event_same t w s e v q d)
  ] refl

  replay_le : (order : List ℕ) (w v : World S) → Replays a p w order v → w.started ≤ v.started
  replay_le [] w v h = le_equal w.started v.started (ap (λ z. z.started) h)
  replay_le (t ∷ order) w v h = le_two w.started h.0.started v.started (event_le t w h.1.before (a.next h.1.before) h.0 h.1.does)
      (replay_le order h.0 v h.2)

  module _ (two : 2 ≤ p.limit) where
    no_spawn : (t : ℕ) (w m v : World S) (d : Step a p t w m) → w.started ≡ 1 → m.started ≤ v.started → v.started ≡ 1
        → is_spawn (a.next d.before) ≡ false
    no_spawn t w m v d one le last =
        let e = a.next d.before in
        elim (is_spawn e) as (λ k. is_spawn e ≡ k → is_spawn e ≡ false) [
          | true ↦ λ q. never_two w.started m.started v.started one
              (spawn_is t w d.before e m q d.does
              ∙ ap (λ k. cond k (w.started + 1) w.started) ((Decides-ltb w.started p.limit).1 (spawn_fits w.started p.limit one two))) le last
          | false ↦ λ q. q
        ] refl

    pub none_spawned : (order : List ℕ) (w v : World S) (h : Replays a p w order v) → w.started ≡ 1 → v.started ≡ 1 → SpawnsNothing a p w order v h
    none_spawned [] w v h one last = tt
    none_spawned (t ∷ order) w v h one last =
        let quiet = no_spawn t w h.0 v h.1 one (replay_le order h.0 v h.2) last in
        (quiet, none_spawned order h.0 v h.2 (event_same t w h.1.before (a.next h.1.before) h.0 quiet h.1.does ∙ one) last)
