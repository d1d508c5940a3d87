-- An entry comes to one thing: it has a step, or it is refused, or it goes on behind the units that are left.
use Rattle.std.proofs.Common.{ℕ, ◌≡◌, ◌<◌, ◌≤◌, ◌+◌, ◌||◌, Bool, true, false, is_some, Option, Some, None, refl, ap, sym, ◌∙◌, subst, arith}
use Rattle.std.proofs.lemmas.Bool.{false≢true, true≢false}
use Rattle.std.proofs.lemmas.Option.{same_Some}
use Rattle.tx_events.specs.declared.Event.{Event}
use Rattle.tx_events.specs.declared.Event.TheVariants.{Silent, Load, Store, Out, Inp, Spawn, Join, BeginAtomic, EndAtomic, Raise, BeginSync, EndSync, Done}
use Rattle.tx_events.specs.declared.Event.TheVariants.{Stop}
use Rattle.tx_events.specs.declared.Reply.TheVariants.{Nothing}
use Rattle.tx_events.specs.Memory.{MemoryLayout}
use Rattle.tx_events.specs.Thread.{Thread, is_silent}
use Rattle.tx_events.specs.Alone.{Inner, BlockStep, Goes, Leaves, Halts, Never, Inside, at_start, goes_on, inner_by, is_over, begin}
use Rattle.tx_events.specs.World.{World, Alive, alive, SilentSteps, none, one_more, EventStep, Joins, Step, target}
use Rattle.src_mean.specs.Cost.{silent_cost, inside_cost, event_cost, step_cost}
use Rattle.src_replay.specs.Entries.{is_going, is_enabled, is_joinable, comes, Moment, outside, within, units, goes_further, Refused, over, absent, stays}
use Rattle.src_replay.specs.Entries.{Unfinished}
use Rattle.tx_events.proofs.OneReplay.{loud}

one_state : {S : Type 0} (s r : S) → alive s ≡ alive r → s ≡ r
one_state {S} s r e = ap (λ (z : Alive S). z.state) (same_Some (record { state = s; ended = false }) (record { state = r; ended = false }) e)

module _ {S : Type 0} (a : Thread S) (p : MemoryLayout) where
  -- silent steps from their front
  data Ahead : S → S → ℕ → Type 0 where
    here : {s : S} → Ahead s s 0
    ahead : {s r : S} {n : ℕ} → a.next s ≡ Silent → Ahead (a.after s Nothing) r n → Ahead s r (n + 1)

  ahead_on : {s q r : S} (h : SilentSteps a s q) (n m : ℕ) → Ahead q r n → m ≡ silent_cost h + n → Ahead s r m
  ahead_on {s} {q} {r} none n m k e = subst (λ z. Ahead s r z) (let same : n ≡ m = omega (arith, e) in same) k
  ahead_on (one_more h e) n m k f = ahead_on h (n + 1) m (ahead e k) (omega (arith, f))

  from_front : {s q : S} (h : SilentSteps a s q) → Ahead s q (silent_cost h)
  from_front h = ahead_on h 0 (silent_cost h) here (omega arith)

  record Order (q u : S) (n m : ℕ) : Type 0 where
    pub most : n ≤ m
    pub less : is_silent (a.next q) ≡ true → n < m
    pub same : is_silent (a.next q) ≡ false → (n ≡ m) × (q ≡ u)

  -- up to an event that is not silent there is one way
  in_order : {s q u : S} {n m : ℕ} → Ahead s q n → Ahead s u m → is_silent (a.next u) ≡ false → Order q u n m
  in_order here here l = record { most = omega arith; less = λ h. absurd (true≢false (sym h ∙ l)); same = λ h. (refl, refl) }
  in_order here (ahead e k) l = record { most = omega arith; less = λ h. omega arith; same = λ h. absurd (true≢false (sym (ap is_silent e) ∙ h)) }
  in_order (ahead e k) here l = absurd (true≢false (sym (ap is_silent e) ∙ l))
  in_order (ahead {n} e k) (ahead {n = m} f g) l =
      let o = in_order k g l in
      record {
        most = omega (arith, o.most);
        less = λ h. let less = o.less h in omega (arith, less);
        same = λ h. let x = o.same h in
            (ap (λ z. z + 1) x.0, x.1);
      }

  silents_order : {s q u : S} (h : SilentSteps a s q) (k : SilentSteps a s u) → is_silent (a.next u) ≡ false → Order q u (silent_cost h) (silent_cost k)
  silents_order h k l = in_order (from_front h) (from_front k) l

  -- the steps of a block from their front
  data Onward : Inner S → Inner S → ℕ → Type 0 where
    there : {i : Inner S} → Onward i i 0
    onward : {i j k : Inner S} {n : ℕ} → inner_by a p i (a.next i.state) ≡ Goes k → Onward k j n → Onward i j (n + 1)

  onward_on : {i j k : Inner S} (h : Inside a p i j) (n m : ℕ) → Onward j k n → m ≡ inside_cost h + n → Onward i k m
  onward_on {i} {j} {k} at_start n m f e = subst (λ z. Onward i k z) (let same : n ≡ m = omega (arith, e) in same) f
  onward_on (goes_on h e) n m f g = onward_on h (n + 1) m (onward e f) (omega (arith, g))

  from_begin : {i j : Inner S} (h : Inside a p i j) → Onward i j (inside_cost h)
  from_begin h = onward_on h 0 (inside_cost h) there (omega arith)

  same_goes : (i j k : Inner S) → inner_by a p i (a.next i.state) ≡ Goes j → inner_by a p i (a.next i.state) ≡ Goes k → j ≡ k
  same_goes i j k e f = let same : ◌≡◌ {A = BlockStep S} (Goes j) (Goes k) = sym e ∙ f in cc

  never_goes : (y : BlockStep S) (k : Inner S) → y ≡ Goes k → comes y ≡ false → ⊥
  never_goes y k e h = true≢false (sym (ap comes e) ∙ h)

  over_goes : (y : BlockStep S) (k : Inner S) → y ≡ Goes k → is_over y ≡ true → ⊥
  over_goes y k e h = false≢true (sym (ap is_over e) ∙ h)

  never_over : (y : BlockStep S) → comes y ≡ false → is_over y ≡ true → ⊥
  never_over (Goes i) h o = false≢true o
  never_over (Leaves s m) h o = true≢false h
  never_over (Halts e) h o = true≢false h
  never_over Never h o = false≢true o

  -- a block that comes to its end is nowhere stuck before, and has more steps than each part of it
  block_most : {i j k : Inner S} {n m : ℕ} → Onward i j n → Onward i k m → is_over (inner_by a p k (a.next k.state)) ≡ true → n ≤ m
  block_most there f o = omega arith
  block_most (onward {i} {k = x} e f) there o = absurd (over_goes (inner_by a p i (a.next i.state)) x e o)
  block_most {j = j} {k = k} (onward {i} {k = x} {n = n} e f) (onward {k = y} {n = m} g h) o =
      let less : n ≤ m = block_most (subst (λ z. Onward z j n) (same_goes i x y e g) f) h o in omega (arith, less)

  not_stuck : {i j k : Inner S} {n m : ℕ} → Onward i j n → Onward i k m → is_over (inner_by a p k (a.next k.state)) ≡ true
      → comes (inner_by a p j (a.next j.state)) ≡ false → ⊥
  not_stuck {i} there there o c = never_over (inner_by a p i (a.next i.state)) c o
  not_stuck {i} there (onward {k = y} g h) o c = never_goes (inner_by a p i (a.next i.state)) y g c
  not_stuck (onward {i} {k = x} e f) there o c = over_goes (inner_by a p i (a.next i.state)) x e o
  not_stuck {j = j} (onward {i} {k = x} {n = n} e f) (onward {k = y} g h) o c = not_stuck (subst (λ z. Onward z j n) (same_goes i x y e g) f) h o c

  -- two points of a block, of which the second is stuck: the first is before it, and where it is not, it is stuck too
  record Before (j k : Inner S) (n m : ℕ) : Type 0 where
    pub most : n ≤ m
    pub same : n ≡ m → j ≡ k

  to_stuck : {i j k : Inner S} {n m : ℕ} → Onward i j n → Onward i k m → comes (inner_by a p k (a.next k.state)) ≡ false → Before j k n m
  to_stuck there there c = record { most = omega arith; same = λ e. refl }
  to_stuck there (onward g h) c = record { most = omega arith; same = λ e. absurd (omega (arith, e)) }
  to_stuck (onward {i} {k = x} e f) there c = absurd (never_goes (inner_by a p i (a.next i.state)) x e c)
  to_stuck {j = j} (onward {i} {k = x} {n = n} e f) (onward {k = y} {n = m} g h) c =
      let b = to_stuck (subst (λ z. Onward z j n) (same_goes i x y e g) f) h c in
      record { most = omega (arith, b.most); same = λ q. b.same (omega (arith, q)) }

  module _ (t : ℕ) (w : World S) where
    no_join : (s : S) (o : Option (Alive S)) (v : World S) → is_joinable o ≡ false → Joins t w s o v → ⊥
    no_join s None v h d = true≢false h
    no_join s (Some u) v h d = true≢false (sym d.0 ∙ h)

    -- an event that is not enabled has no step
    no_event : (s : S) (e : Event) (v : World S) → is_enabled t w e ≡ false → EventStep a p t w s e v → ⊥
    no_event s Silent v h d = d
    no_event s EndAtomic v h d = d
    no_event s (Raise kind cancels) v h d = d
    no_event s (BeginAtomic kind) v h d = true≢false (sym d.0 ∙ h)
    no_event s BeginSync v h d = true≢false (sym d.0 ∙ h)
    no_event s (Join id) v h d = no_join (a.after s Nothing) (target t id w.threads) v h d
    no_event s (Load addr size volatile) v h d = true≢false h
    no_event s (Store addr size value volatile) v h d = true≢false h
    no_event s (Out byte) v h d = true≢false h
    no_event s Inp v h d = true≢false h
    no_event s (Spawn func arg) v h d = true≢false h
    no_event s EndSync v h d = true≢false h
    no_event s Done v h d = true≢false h
    no_event s (Stop end) v h d = true≢false h

    neither : (b c : Bool) → (b || c) ≡ false → (b ≡ false) × (c ≡ false)
    neither true c h = absurd (true≢false h)
    neither false c h = (refl, h)

    not_going : (o : Option (Alive S)) (s : S) → o ≡ alive s → is_going o ≡ false → ⊥
    not_going o s e h = true≢false (sym (ap is_going e) ∙ h)

    pub refused_no_step : (most : ℕ) (v : World S) → Refused a p t w most → Step a p t w v → ⊥
    refused_no_step most v (over e) d = true≢false (sym e ∙ ap is_some d.going)
    refused_no_step most v (absent e) d = not_going (w.threads t) d.from d.is e
    refused_no_step most v (stays (outside from place is silents) few stuck) d =
        let same : from ≡ d.from = one_state from d.from (sym is ∙ d.is) in
        let quiet = neither (is_silent (a.next place)) (is_enabled t w (a.next place)) stuck in
        let o = silents_order (subst (λ z. SilentSteps a z place) same silents) d.silents (loud a p t w v d.before (a.next d.before) d.does) in
        no_event d.before (a.next d.before) v (ap (λ z. is_enabled t w (a.next z)) (sym (o.same quiet.0).1) ∙ quiet.1) d.does
    refused_no_step most v (stays (within from before kind last is silents begins free run) few stuck) d =
        let same : from ≡ d.from = one_state from d.from (sym is ∙ d.is) in
        let o = silents_order (subst (λ z. SilentSteps a z before) same silents) d.silents (loud a p t w v d.before (a.next d.before) d.does) in
        let at = (o.same (ap is_silent begins)).1 in
        let does : EventStep a p t w before (BeginAtomic kind) v =
        subst (λ (e : Event). EventStep a p t w before e v) begins (subst (λ z. EventStep a p t w z (a.next z) v) (sym at) d.does) in
        not_stuck (from_begin run) (from_begin (does.1).run) (does.1).over stuck

    -- an event costs a unit or more
    event_pays : (s : S) (e : Event) (v : World S) (d : EventStep a p t w s e v) → 1 ≤ event_cost a p t w s e v d
    event_pays s (BeginAtomic kind) v d = omega arith
    event_pays s Silent v d = omega arith
    event_pays s EndAtomic v d = omega arith
    event_pays s (Raise kind cancels) v d = omega arith
    event_pays s BeginSync v d = omega arith
    event_pays s (Join id) v d = omega arith
    event_pays s (Load addr size volatile) v d = omega arith
    event_pays s (Store addr size value volatile) v d = omega arith
    event_pays s (Out byte) v d = omega arith
    event_pays s Inp v d = omega arith
    event_pays s (Spawn func arg) v d = omega arith
    event_pays s EndSync v d = omega arith
    event_pays s Done v d = omega arith
    event_pays s (Stop end) v d = omega arith

    -- an event with its cost
    record Priced (s : S) (e : Event) (v : World S) (n : ℕ) : Type 0 where
      pub does : EventStep a p t w s e v
      pub costs : event_cost a p t w s e v does ≡ n

    pub unfinished_more : (most : ℕ) (v : World S) → Unfinished a p t w most → (d : Step a p t w v) → most < step_cost a p t w v d
    unfinished_more most v u d = by_moment u.moment u.all u.further
      where
        by_moment : (m : Moment a p t w) → units a p t w m ≡ most → goes_further a p t w m ≡ true → most < step_cost a p t w v d
        by_moment (outside from place is silents) all further =
            let same : from ≡ d.from = one_state from d.from (sym is ∙ d.is) in
            let o = in_order (subst (λ z. Ahead z place (silent_cost silents)) same (from_front silents)) (from_front d.silents)
            (loud a p t w v d.before (a.next d.before) d.does) in
            let pays = event_pays d.before (a.next d.before) v d.does in
            omega (arith, all, o.most, pays)
        by_moment (within from before kind last is silents begins free run) all further =
            let same : from ≡ d.from = one_state from d.from (sym is ∙ d.is) in
            let o = in_order (subst (λ z. Ahead z before (silent_cost silents)) same (from_front silents)) (from_front d.silents)
            (loud a p t w v d.before (a.next d.before) d.does) in
            let at = o.same (ap is_silent begins) in
            let n = event_cost a p t w d.before (a.next d.before) v d.does in
            let priced : Priced d.before (a.next d.before) v n = record { does = d.does; costs = refl } in
            let first : Priced before (BeginAtomic kind) v n =
            subst (λ (e : Event). Priced before e v n) begins (subst (λ z. Priced z (a.next z) v n) (sym at.1) priced) in
            let less = block_most (from_begin run) (from_begin (first.does.1).run) (first.does.1).over in
            omega (arith, all, at.0, first.costs, less)

    -- what is refused within some units does not go on behind them
    pub refused_finished : (most : ℕ) → Refused a p t w most → Unfinished a p t w most → ⊥
    refused_finished most (over e) u = true≢false (sym e ∙ ap is_some u.going)
    refused_finished most (absent e) u = by_moment u.moment
      where
        by_moment : Moment a p t w → ⊥
        by_moment (outside from place is silents) = not_going (w.threads t) from is e
        by_moment (within from before kind last is silents begins free run) = not_going (w.threads t) from is e
    refused_finished most (stays (outside from place is silents) few stuck) u = by_moment u.moment u.all u.further
      where
        by_moment : (m : Moment a p t w) → units a p t w m ≡ most → goes_further a p t w m ≡ true → ⊥
        by_moment (outside other spot at steps) all further =
            let same : other ≡ from = one_state other from (sym at ∙ is) in
            let quiet = neither (is_silent (a.next place)) (is_enabled t w (a.next place)) stuck in
            let o = in_order (subst (λ z. Ahead z spot (silent_cost steps)) same (from_front steps)) (from_front silents) quiet.0 in
            still (is_silent (a.next spot)) refl o quiet.1 further all
          where
            still : (b : Bool) → is_silent (a.next spot) ≡ b → Order spot place (silent_cost steps) (silent_cost silents)
                → is_enabled t w (a.next place) ≡ false → (is_silent (a.next spot) || is_enabled t w (a.next spot)) ≡ true → silent_cost steps ≡ most → ⊥
            still true e o off further all = let less = o.less e in omega (arith, less, few, all)
            still false e o off further all =
                let here_is = (o.same e).1 in
                true≢false (sym further ∙ (ap (λ b. b || is_enabled t w (a.next spot)) e ∙ (ap (λ z. is_enabled t w (a.next z)) here_is ∙ off)))
        by_moment (within other before kind last at steps begins free run) all further =
            let same : other ≡ from = one_state other from (sym at ∙ is) in
            let quiet = neither (is_silent (a.next place)) (is_enabled t w (a.next place)) stuck in
            let o = in_order (subst (λ z. Ahead z before (silent_cost steps)) same (from_front steps)) (from_front silents) quiet.0 in
            let here_is = (o.same (ap is_silent begins)).1 in
            true≢false (sym (ap (λ e. is_enabled t w e) begins ∙ free) ∙ (ap (λ z. is_enabled t w (a.next z)) here_is ∙ quiet.1))
    refused_finished most (stays (within from before kind last is silents begins free run) few stuck) u = by_moment u.moment u.all u.further
      where
        by_moment : (m : Moment a p t w) → units a p t w m ≡ most → goes_further a p t w m ≡ true → ⊥
        by_moment (outside other spot at steps) all further =
            let same : other ≡ from = one_state other from (sym at ∙ is) in
            let o = in_order (subst (λ z. Ahead z spot (silent_cost steps)) same (from_front steps)) (from_front silents) (ap is_silent begins) in
            omega (arith, o.most, few, all)
        by_moment (within other spot sort end at steps starts open_to path) all further =
            let same : other ≡ from = one_state other from (sym at ∙ is) in
            let o = in_order (subst (λ z. Ahead z spot (silent_cost steps)) same (from_front steps)) (from_front silents) (ap is_silent begins) in
            let here_is = o.same (ap is_silent starts) in
            let b = to_stuck (subst (λ z. Onward (begin (a.after z Nothing) w.memory) end (inside_cost path)) here_is.1 (from_begin path))
            (from_begin run) stuck in
            let last_is = b.same (omega (arith, b.most, few, all, here_is.0)) in
            true≢false (sym further ∙ (ap (λ z. comes (inner_by a p z (a.next z.state))) last_is ∙ stuck))

    -- an event, or a whole block, has one cost
    one_event_cost : (s : S) (e : Event) (v u : World S) (d : EventStep a p t w s e v) (f : EventStep a p t w s e u)
        → event_cost a p t w s e v d ≡ event_cost a p t w s e u f
    one_event_cost s (BeginAtomic kind) v u d f =
        let most = block_most (from_begin (d.1).run) (from_begin (f.1).run) (f.1).over in
        let least = block_most (from_begin (f.1).run) (from_begin (d.1).run) (d.1).over in
        omega (arith, most, least)
    one_event_cost s Silent v u d f = refl
    one_event_cost s EndAtomic v u d f = refl
    one_event_cost s (Raise kind cancels) v u d f = refl
    one_event_cost s BeginSync v u d f = refl
    one_event_cost s (Join id) v u d f = refl
    one_event_cost s (Load addr size volatile) v u d f = refl
    one_event_cost s (Store addr size value volatile) v u d f = refl
    one_event_cost s (Out byte) v u d f = refl
    one_event_cost s Inp v u d f = refl
    one_event_cost s (Spawn func arg) v u d f = refl
    one_event_cost s EndSync v u d f = refl
    one_event_cost s Done v u d f = refl
    one_event_cost s (Stop end) v u d f = refl

    -- and so has a step
    pub one_step_cost : (v u : World S) (d : Step a p t w v) (f : Step a p t w u) → step_cost a p t w v d ≡ step_cost a p t w u f
    one_step_cost v u d f =
        let same : d.from ≡ f.from = one_state d.from f.from (sym d.is ∙ f.is) in
        let o = in_order (subst (λ z. Ahead z d.before (silent_cost d.silents)) same (from_front d.silents)) (from_front f.silents)
        (loud a p t w u f.before (a.next f.before) f.does) in
        let at = o.same (loud a p t w v d.before (a.next d.before) d.does) in
        let n = event_cost a p t w d.before (a.next d.before) v d.does in
        let priced : Priced d.before (a.next d.before) v n = record { does = d.does; costs = refl } in
        let there : Priced f.before (a.next f.before) v n = subst (λ z. Priced z (a.next z) v n) at.1 priced in
        let one = one_event_cost f.before (a.next f.before) v u there.does f.does in
        omega (arith, at.0, there.costs, one)
