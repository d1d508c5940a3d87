-- The items of a replay fit the threads that are started.
use Rattle.std.proofs.Common.{ℕ, ℤ, ◌≡◌, ◌<◌, ◌≤◌, ◌+◌, ◌*◌, ◌^◌, ◌⊎◌, inl, inr, Bool, true, false, cond, refl, ap, sym, ◌∙◌, subst, List, [], ◌∷◌, ◌++◌}
use Rattle.std.proofs.Common.{Option, Some, None, arith}
use Rattle.std.specs.Prelude.{nat_lt, nat_le, ◌&&◌, ◌||◌, ◌-◌, ◌/◌, ◌%◌}
use Rattle.std.proofs.lemmas.Bool.{ltb-true, leb-true, eqb-true, cases_lt, false≢true}
use Rattle.std.proofs.Math.Nat.{mod-eq_of_lt}
use Rattle.tx_events.specs.declared.End.{End}
use Rattle.tx_events.specs.declared.End.TheVariants.{Trapped}
use Rattle.tx_events.specs.declared.Trap.TheVariants.{BadAddress, BadJoin, TooManyThreads}
use Rattle.tx_events.specs.declared.Event.{Event}
use Rattle.tx_events.specs.declared.Event.TheVariants.{
  Silent,
  Load,
  Store,
  Out,
  Inp,
  Spawn,
  Join,
  BeginAtomic,
  EndAtomic,
  Raise,
  BeginSync,
  EndSync,
  Done,
  Stop,
}
use Rattle.tx_events.specs.declared.Item.{Item}
use Rattle.tx_events.specs.declared.What.{What}
use Rattle.tx_events.specs.declared.What.TheVariants.{Read, Write, Enter, Leave, Spawned}
use Rattle.tx_events.specs.Thread.{Thread, is_empty, rest_of}
use Rattle.tx_events.specs.Memory.{update, MemoryLayout, can_access, is_aligned, is_mapped, in_globals, in_stacks, globals_start, globals_end, stacks_start}
use Rattle.tx_events.specs.Memory.{stack_stride, stack_size, word_of, word_bound}
use Rattle.tx_events.specs.Alone.{Inner, Inside, at_start, goes_on, BlockStep, Goes, Leaves, Halts, Never, outcome}
use Rattle.tx_events.specs.World.{World, Alive, alive, Replays, EventStep, BlockEffect, Joins, target, ends, first_world}
use Rattle.tx_events.proofs.WordLemmas.{access_below, is_accessed, and_left}
use Rattle.tx_serial.specs.Trace.{item_if, access_items, inside_items, leave_items, join_items, step_items, items_of, TraceOf}
use Rattle.race_check.specs.Regular.{Regular}
use Rattle.regular_traces.proofs.FittingItems.{Fits, fits_append, regular as fitting_is_regular}
use Rattle.regular_traces.proofs.NumberedWorlds.{Below, Numbered, updated, more, moved, ended, start}

-- An access that does not trap ends within the addresses.

mapped_above : (p : MemoryLayout) (addr : ℕ) → is_mapped p addr ≡ true → 0 < addr
unfolding is_mapped
mapped_above p addr h = either (in_globals p addr) (in_stacks p addr) refl refl h
  where
    either : (b c : Bool) → in_globals p addr ≡ b → in_stacks p addr ≡ c → (b || c) ≡ true → 0 < addr
    either true c g s o =
        let least : 65536 ≤ addr = leb-true 65536 addr (and_left (nat_le globals_start addr) (nat_lt addr (globals_end p)) g) in omega (arith, least)
    either false true g s o =
        let reached = nat_le stacks_start addr in
        let started = nat_lt ((addr - stacks_start) / stack_stride) p.limit in
        let both = and_left (reached && started) (nat_lt ((addr - stacks_start) % stack_stride) stack_size) s in
        let least : 16777216 ≤ addr = leb-true 16777216 addr (and_left reached started both) in omega (arith, least)
    either false false g s o = absurd (false≢true o)

aligned_small : (addr size : ℕ) → 0 < addr → is_aligned addr size ≡ true → size ≤ addr
unfolding is_aligned
aligned_small addr size pos h = by (cases_lt addr size)
  where
    by : (addr < size) ⊎ (size ≤ addr) → size ≤ addr
    by (inl lt) =
        let none : addr % size ≡ 0 = eqb-true (addr % size) 0 h in
        let all : addr % size ≡ addr = mod-eq_of_lt lt in
        let no : addr ≡ 0 = sym all ∙ none in
        omega (arith, no, pos)
    by (inr le) = le

ends_within : (p : MemoryLayout) → p.limit ≤ 64 → p.globals < 2 ^ 62 → (addr size : ℕ) → can_access p addr size ≡ true → addr + size < 2 ^ 64
unfolding word_of word_bound
ends_within p few small addr size h =
    let both = is_accessed p addr size h in
    let le = aligned_small addr size (mapped_above p addr both.1) both.0 in
    let below : addr - addr % 8 < 65536 + (p.globals + 7) / 8 * 8 + 16777216 + 131072 * p.limit = access_below p addr size h in
    omega (arith, le, below, few, small)

module _ {S : Type 0} (a : Thread S) (p : MemoryLayout) (few : p.limit ≤ 64) (small : p.globals < 2 ^ 62) where
  -- Items that start no thread.

  module _ (t n : ℕ) (lt : t < n) where
    zero_end : 0 < 2 ^ 64
    zero_end = omega arith

    enter_fits : (c : Bool) → Fits n (item_if c t Enter) n
    enter_fits true = ((lt, zero_end, tt), refl)
    enter_fits false = refl

    leave_fits : (c : Bool) → Fits n (item_if c t Leave) n
    leave_fits true = ((lt, zero_end, tt), refl)
    leave_fits false = refl

    read_fits : (c : Bool) (addr size : ℕ) → can_access p addr size ≡ c → Fits n (item_if c t (Read addr size)) n
    read_fits true addr size e = ((lt, ends_within p few small addr size e, tt), refl)
    read_fits false addr size e = refl

    write_fits : (c : Bool) (addr size : ℕ) → can_access p addr size ≡ c → Fits n (item_if c t (Write addr size)) n
    write_fits true addr size e = ((lt, ends_within p few small addr size e, tt), refl)
    write_fits false addr size e = refl

    access_fits : (e : Event) → Fits n (access_items p t e) n
    access_fits (Load addr size vol) = read_fits (can_access p addr size) addr size refl
    access_fits (Store addr size value vol) = write_fits (can_access p addr size) addr size refl
    access_fits Silent = refl
    access_fits (Out byte) = refl
    access_fits Inp = refl
    access_fits (Spawn f x) = refl
    access_fits (Join id) = refl
    access_fits (BeginAtomic kind) = refl
    access_fits EndAtomic = refl
    access_fits (Raise kind can) = refl
    access_fits BeginSync = refl
    access_fits EndSync = refl
    access_fits Done = refl
    access_fits (Stop end) = refl

    inside_fits : {i j : Inner S} (run : Inside a p i j) → Fits n (inside_items t run) n
    inside_fits at_start = refl
    inside_fits (goes_on {j = q} run e) =
        fits_append (inside_items t run) (access_items p t (a.next q.state)) n n n (inside_fits run) (access_fits (a.next q.state))

    left_fits : (outer : Bool) (y : BlockStep S) → Fits n (leave_items outer t y) n
    left_fits outer (Leaves s m) = leave_fits outer
    left_fits outer (Halts end) = refl
    left_fits outer (Goes i) = refl
    left_fits outer Never = refl

    join_fits : {X : Type 0} (id : ℤ) (o : Option X) → Fits n (join_items t id o) n
    join_fits id None = refl
    join_fits id (Some u) = ((lt, zero_end, tt), refl)

  -- What a step of thread t comes to.
  record Goes_to (w v : World S) (items : List Item) : Type 0 where
    numbered : Numbered v
    fits : Fits w.started items v.started

  module _ (t : ℕ) (w v : World S) (h : Numbered w) (lt : t < w.started) where
    -- no thread is started
    still : (items : List Item) → v.started ≡ w.started → Numbered v → Fits w.started items w.started → Goes_to w v items
    still items e f g = record { numbered = f; fits = subst (λ z. Fits w.started items z) (sym e) g }

    moves : (items : List Item) (o : Option (Alive S)) → v.started ≡ w.started → v.threads ≡ update w.threads t o → Fits w.started items w.started
        → Goes_to w v items
    moves items o e f g = still items e (moved w v h t o lt f e) g

    halts : (items : List Item) (end : End) → v ≡ ends w end → Fits w.started items w.started → Goes_to w v items
    halts items end e g = still items (ap (λ (z : World S). z.started) e) (ended w v h end e) g

    either : (b : Bool) (x : World S) (o : Option (Alive S)) (end : End) (items : List Item) → v ≡ cond b x (ends w end) → x.started ≡ w.started
        → x.threads ≡ update w.threads t o → Fits w.started items w.started → Goes_to w v items
    either true x o end items e s f g = moves items o (ap (λ (z : World S). z.started) e ∙ s) (ap (λ (z : World S). z.threads) e ∙ f) g
    either false x o end items e s f g = halts items end e g

    spawns : (b : Bool) → nat_lt w.started p.limit ≡ b → (x : World S) (child own : Option (Alive S)) (end : End) → v ≡ cond b x (ends w end)
        → x.started ≡ w.started + 1 → x.threads ≡ update (update w.threads w.started child) t own → Goes_to w v (item_if b t (Spawned w.started))
    spawns true is x child own end e s f =
        let n = w.started in
        let below : n < p.limit = ltb-true n p.limit is in
        let free : n < 64 = omega (arith, below, few) in
        let started : v.started ≡ n + 1 = ap (λ (z : World S). z.started) e ∙ s in
        let threads : v.threads ≡ update (update w.threads n child) t own = ap (λ (z : World S). z.threads) e ∙ f in
        let all = updated (update w.threads n child) t (n + 1) own (omega (arith, lt))
        (updated w.threads n (n + 1) child (omega arith) (more w.threads n h.below)) in
        record {
          numbered = record {
            few = omega (arith, started, free);
            below = subst (λ z. Below v.threads z) (sym started)
                (subst (λ f. Below f (n + 1)) (sym threads) all);
          };
          fits = ((lt, zero_end t n lt, (refl, free)), sym started);
        }
    spawns false is x child own end e s f = halts [] end e refl

    joined : (id : ℤ) (s : S) (o : Option (Alive S)) → Joins t w s o v → Goes_to w v (join_items t id o)
    joined id s None e = halts [] (Trapped BadJoin) e refl
    joined id s (Some u) e = moves (join_items t id (Some u)) (alive s) (ap (λ (z : World S). z.started) e.1) (ap (λ (z : World S). z.threads) e.1)
        (join_fits t w.started lt id (Some u))

    block : (y : BlockStep S) (items : List Item) → BlockEffect t w y v → Fits w.started items w.started → Goes_to w v items
    block (Goes i) items e g = absurd e
    block Never items e g = absurd e
    block (Leaves s m) items e g = moves items (alive s) (ap (λ (z : World S). z.started) e) (ap (λ (z : World S). z.threads) e) g
    block (Halts end) items e g = halts items end e g

    step_fits : (s : S) (e : Event) (d : EventStep a p t w s e v) → Goes_to w v (step_items a p t w s e v d)
    step_fits s Silent d = absurd d
    step_fits s EndAtomic d = absurd d
    step_fits s (Raise kind can) d = absurd d
    step_fits s (Load addr size vol) d = either (can_access p addr size) _ _ (Trapped BadAddress) (access_items p t (Load addr size vol)) d refl refl
        (access_fits t w.started lt (Load addr size vol))
    step_fits s (Store addr size value vol) d = either (can_access p addr size) _ _ (Trapped BadAddress)
        (access_items p t (Store addr size value vol)) d refl refl
        (access_fits t w.started lt (Store addr size value vol))
    step_fits s (Out c) d = moves [] _ (ap (λ (z : World S). z.started) d) (ap (λ (z : World S). z.threads) d) refl
    step_fits s Inp d = moves [] _ (ap (λ (z : World S). z.started) d) (ap (λ (z : World S). z.threads) d) refl
    step_fits s (Spawn f x) d = spawns (nat_lt w.started p.limit) refl _ _ _ (Trapped TooManyThreads) d refl refl
    step_fits s (Join id) d = joined id _ (target t id w.threads) d
    step_fits s BeginSync d = moves (item_if (is_empty (a.blocks s)) t Enter) _ (ap (λ (z : World S). z.started) d.1) (ap (λ (z : World S). z.threads) d.1)
        (enter_fits t w.started lt (is_empty (a.blocks s)))
    step_fits s EndSync d = moves (item_if (is_empty (rest_of (a.blocks s))) t Leave) _ (ap (λ (z : World S). z.started) d) (ap (λ (z : World S). z.threads) d)
        (leave_fits t w.started lt (is_empty (rest_of (a.blocks s))))
    step_fits s Done d = moves [] _ (ap (λ (z : World S). z.started) d) (ap (λ (z : World S). z.threads) d) refl
    step_fits s (Stop end) d = halts [] end d refl
    step_fits s (BeginAtomic kind) d =
        let n = w.started in
        let outer = is_empty (a.blocks s) in
        let enter = item_if outer t Enter in
        let inside = inside_items t d.1.run in
        let left = leave_items outer t (outcome d.1) in
        block (outcome d.1) (enter ++ (inside ++ left)) d.2
        (fits_append enter (inside ++ left) n n n (enter_fits t n lt outer)
        (fits_append inside left n n n (inside_fits t n lt d.1.run) (left_fits t n lt outer (outcome d.1))))

  items_fit : (order : List ℕ) (w v : World S) → Numbered w → (h : Replays a p w order v) → Fits w.started (items_of a p w order v h) v.started
  items_fit [] w v n h = sym (ap (λ (z : World S). z.started) h)
  items_fit (t ∷ order) w v n h =
      let s = h.1 in
      let lt = n.below t _ s.is in
      let g = step_fits t w h.0 n lt s.before (a.next s.before) s.does in
      fits_append (step_items a p t w s.before (a.next s.before) h.0 s.does) (items_of a p h.0 order v h.2) w.started h.0.started v.started g.fits
      (items_fit order h.0 v g.numbered h.2)

  pub regular : (memory : ℕ → ℕ) (input : List ℕ) (main : S) (order : List ℕ) (items : List Item) → TraceOf a p (first_world memory input main) order items
      → Regular items
  regular memory input main order items h =
      let w = first_world memory input main in
      subst Regular (sym h.is) (fitting_is_regular (items_of a p w order h.world h.replays) 1 h.world.started (omega arith)
      (items_fit order w h.world (start memory input main) h.replays))
