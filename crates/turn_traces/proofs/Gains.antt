-- What the trace gains in a turn is the items of the step that the order gains.
use Rattle.std.proofs.Common.{ℕ, ℤ, pos, negsuc, ◌≡◌, ◌==◌, Bool, true, false, cond, refl, ap, sym, ◌∙◌, subst, length, List, [], ◌∷◌, ◌++◌, append_assoc}
use Rattle.std.proofs.Common.{append-nil, Option, Some, None, is_some, arith}
use Rattle.std.specs.Prelude.{nat_lt, not, ◌&&◌, ◌||◌}
use Rattle.std.proofs.lemmas.Bool.{true≢false, false≢true, eq-eqb, ne_eqb}
use Rattle.choosers.specs.declared.Clash.{Clash}
use Rattle.choosers.specs.declared.Choice.{Choice}
use Rattle.choosers.specs.declared.Choice.TheVariants.{Wait, Yield}
use Rattle.tx_events.specs.declared.BlockKind.{BlockKind}
use Rattle.tx_events.specs.declared.BlockKind.TheVariants.{NoExcept, Commit, Cancel}
use Rattle.tx_events.specs.declared.End.{End}
use Rattle.tx_events.specs.declared.End.TheVariants.{Abort, Trapped}
use Rattle.tx_events.specs.declared.Trap.TheVariants.{BadAddress, TooManyThreads, BadJoin}
use Rattle.tx_events.specs.declared.Event.{Event}
use Rattle.tx_events.specs.declared.Event.TheVariants.{
  Silent,
  Load,
  Store,
  Out,
  Inp,
  Spawn,
  Join,
  BeginAtomic,
  EndAtomic,
  Raise,
  BeginSync,
  EndSync,
  Done,
  Stop,
}
use Rattle.tx_events.specs.declared.Item.{Item}
use Rattle.tx_events.specs.declared.What.{What}
use Rattle.tx_events.specs.declared.What.TheVariants.{Read, Write, Enter, Leave, Spawned}
use Rattle.tx_events.specs.declared.Reply.TheVariants.{Nothing, Loaded}
use Rattle.tx_events.specs.declared.TurnKind.TheVariants.{Ran, JoinWait}
use Rattle.tx_events.specs.Thread.{Thread, Open, Atomic, Sync, atomics, may_come, rest_of, in_sync, is_empty}
use Rattle.tx_events.specs.Memory.{update, MemoryLayout, can_access, word_of, word_bound, load, store}
use Rattle.tx_events.specs.Alone.{Inner, inner_by, leave, raise, newest, BlockStep, Leaves, Halts, Inside, at_start, goes_on, is_over, Alone, outcome}
use Rattle.tx_events.specs.World.{World, Alive, EventStep, target}
use Rattle.tx_events.proofs.BlockRuns.{update_same}
use Rattle.tx_events.proofs.OneReplay.{From, at, then, inner_or, same_outcome}
use Rattle.tx_serial.specs.Machine.{Machine, Local, OpenTx, Save, no_save, least, blocker, lock_owner, busy, clash_of, hand, note, is_noted}
use Rattle.tx_serial.specs.Turn.{Turned, ran, stays, steps, number_of, load_out, store_out, joins, sync_in, sync_idle, halts, clashes, closes, load_in}
use Rattle.tx_serial.specs.Turn.{store_in, outermost, commits, cancels_by, cancels, raises, in_does, out_does}
use Rattle.tx_serial.specs.Kinds.{is_ran}
use Rattle.tx_serial.specs.Run.{is_open}
use Rattle.tx_serial.specs.Order.{enters_order, open_in}
use Rattle.tx_serial.specs.Shows.{ShowsThread, Even}
use Rattle.tx_serial.specs.Trace.{item_if, access_items, inside_items, leave_items, join_items, step_items}
use Rattle.tx_serial.proofs.WorldAgreement.{Going}
use Rattle.turn_traces.specs.Keeping.{Kept, gained, items_told, block_so_far, whole_block, access_outside}

empty_is : (bs : List Open) (n : ℕ) → n ≡ length bs → (n == 0) ≡ is_empty bs
empty_is [] n e = eq-eqb n 0 e
empty_is (b ∷ bs) n e = ne_eqb n 0 (λ z. absurd (omega (arith, e, z)))

pub last_is : (bs : List Open) (n : ℕ) → n ≡ length bs → is_empty bs ≡ false → (n == 1) ≡ is_empty (rest_of bs)
last_is [] n e h = absurd (true≢false h)
last_is (b ∷ []) n e h = eq-eqb n 1 e
last_is (b ∷ c ∷ bs) n e h = ne_eqb n 1 (λ z. absurd (omega (arith, e, z)))

sync_open : (bs : List Open) → in_sync bs ≡ true → is_empty bs ≡ false
sync_open [] h = absurd (false≢true h)
sync_open (b ∷ bs) h = refl

-- where an atomic block is open below a synchronized one, two are open
deeper : (bs : List Open) → in_sync bs ≡ true → (atomics bs == 0) ≡ false → is_empty (rest_of bs) ≡ false
deeper [] h d = absurd (false≢true h)
deeper (Atomic kind ∷ bs) h d = absurd (false≢true h)
deeper (Sync ∷ []) h d = absurd (true≢false d)
deeper (Sync ∷ b ∷ bs) h d = refl

some_open : (bs : List Open) → (atomics bs == 0) ≡ false → is_empty bs ≡ false
some_open [] d = absurd (true≢false d)
some_open (b ∷ bs) d = refl

module _ {S : Type 0} (a : Thread S) (p : MemoryLayout) (t : ℕ) where
  -- the accesses of a run, from its front
  abbrev from_items : {i j : Inner S} → From a p i j → List Item
  from_items at = []
  from_items {i} (then e f) = access_items p t (a.next i.state) ++ from_items f

  front : {i j k : Inner S} (h : Inside a p i j) (f : From a p j k) → (g : From a p i k) × (from_items g ≡ (inside_items t h ++ from_items f))
  front at_start f = (f, refl)
  front (goes_on {j = q} h e) f =
      let r = front h (then e f) in (r.0, r.1 ∙ sym (append_assoc (inside_items t h) (access_items p t (a.next q.state)) (from_items f)))

  -- from one state there is one way to the end of the block
  same_from : {i i' j k : Inner S} (f : From a p i j) (g : From a p i' k) → i ≡ i' → is_over (inner_by a p j (a.next j.state)) ≡ true
      → is_over (inner_by a p k (a.next k.state)) ≡ true → from_items f ≡ from_items g
  same_from at at e x y = refl
  same_from at (then {i = i'} e' g) e x y = absurd (false≢true (sym (ap is_over e') ∙ (ap (λ z. is_over (inner_by a p z (a.next z.state))) (sym e) ∙ x)))
  same_from (then e' f) at e x y = absurd (false≢true (sym (ap is_over e') ∙ (ap (λ z. is_over (inner_by a p z (a.next z.state))) e ∙ y)))
  same_from {i} {i'} (then {k = c} e' f) (then {k = d} e'' g) e x y =
      let next : c ≡ d = ap (inner_or a p i) (sym e' ∙ (ap (λ z. inner_by a p z (a.next z.state)) e ∙ e'')) in
      ap (λ z. access_items p t (a.next z.state) ++ from_items f) e ∙ ap (λ zs. access_items p t (a.next i'.state) ++ zs) (same_from f g next x y)

  -- a block has one list of accesses
  pub same_block : (s : S) (m : ℕ → ℕ) (run other : Alone a p s m) → inside_items t run.run ≡ inside_items t other.run
  same_block s m run other =
      let f = front run.run at in
      let g = front other.run at in
      sym (append-nil (inside_items t run.run)) ∙ (sym f.1 ∙ (same_from f.0 g.0 refl run.over other.over ∙ (g.1 ∙ append-nil (inside_items t other.run))))

-- a thread that may be joined is one of the machine and one of the world
target_shown : {S : Type 0} (a : Thread S) (p : MemoryLayout) (memory outside : ℕ → ℕ) (t : ℕ) (id : ℤ) (f : ℕ → Option (Local S)) (g : ℕ → Option (Alive S))
    → ((u : ℕ) → ShowsThread a p memory outside (f u) (g u)) → join_items t id (target t id g) ≡ join_items t id (target t id f)
target_shown {S} a p memory outside t (negsuc n) f g h = refl
target_shown {S} a p memory outside t (pos n) f g h = by_choice ((n == 0) || (n == t))
  where
    by_thread : (o : Option (Local S)) (s : Option (Alive S)) → ShowsThread a p memory outside o s → join_items t (pos n) s ≡ join_items t (pos n) o
    by_thread None None i = refl
    by_thread None (Some s) i = absurd i
    by_thread (Some l) None i = absurd i
    by_thread (Some l) (Some s) i = refl

    by_choice : (b : Bool) → join_items t (pos n) (cond b None (g n)) ≡ join_items t (pos n) (cond b None (f n))
    by_choice true = refl
    by_choice false = by_thread (f n) (g n) (h n)

module _ {S : Type 0} (a : Thread S) (p : MemoryLayout) (t : ℕ) (m : Machine S) (l : Local S) (x : Kept) (started : ℕ) (goes : m.end ≡ None)
    (all : x.open_blocks ≡ length (a.blocks l.state)) (may : may_come (a.next l.state) (a.blocks l.state) ≡ true) where
  abbrev Told : Event → Turned S → List Item
  Told e r = items_told t started e r.kind r.machine.end x

  module _ (w v : World S) (g : Going a p m.memory m.threads m.started m.lock w) (count : started ≡ m.started) (flat : (x.atomic_blocks == 0) ≡ true) where
    -- a step outside a transaction
    stepped : (e : Event) → items_told t started e Ran m.end x ≡ gained t started e x
    stepped e = ap (λ z. items_told t started e Ran z x) goes

    halted : (e : Event) (end : End) → Told e (halts t m end) ≡ []
    halted e end = ap (λ b. cond b [] (block_so_far t x)) flat

    access_gains : (e : Event) (what : What) (b : Bool) (r : Turned S) (end : End) → gained t started e x ≡ access_outside t what x
        → (is_ran r.kind ≡ true → Told e r ≡ gained t started e x) → is_ran (cond b r (halts t m end)).kind ≡ true
        → Told e (cond b r (halts t m end)) ≡ item_if b t what
    access_gains e what true r end f h k = h k ∙ (f ∙ ap (λ c. item_if c t what) flat)
    access_gains e what false r end f h k = halted e end

    load_gains : (addr size : ℕ) (vol : Bool) (o : Option ℕ) → is_ran (load_out a t m l addr size o).kind ≡ true
        → Told (Load addr size vol) (load_out a t m l addr size o) ≡ gained t started (Load addr size vol) x
    load_gains addr size vol (Some u) k = absurd (false≢true k)
    load_gains addr size vol None k = stepped (Load addr size vol)

    store_gains : (addr size value : ℕ) (vol : Bool) (o : Option ℕ) → is_ran (store_out a t m l addr size value o).kind ≡ true
        → Told (Store addr size value vol) (store_out a t m l addr size value o) ≡ gained t started (Store addr size value vol) x
    store_gains addr size value vol (Some u) k = absurd (false≢true k)
    store_gains addr size value vol None k = stepped (Store addr size value vol)

    ended_gains : (id : ℤ) (b : Bool) (r : Turned S) → Told (Join id) r ≡ gained t started (Join id) x
        → is_ran (cond b r (stays (JoinWait (number_of id)) m)).kind ≡ true
        → Told (Join id) (cond b r (stays (JoinWait (number_of id)) m)) ≡ gained t started (Join id) x
    ended_gains id true r h k = h
    ended_gains id false r h k = absurd (false≢true k)

    join_gains : (id : ℤ) (o : Option (Local S)) → is_ran (joins t id m (record l { state = a.after l.state Nothing }) o).kind ≡ true
        → Told (Join id) (joins t id m (record l { state = a.after l.state Nothing }) o) ≡ join_items t id o
    join_gains id None k = halted (Join id) (Trapped BadJoin)
    join_gains id (Some u) k = ended_gains id u.ended _ (stepped (Join id)) k

    idle_gains : (o : Option ℕ) → is_ran (sync_idle t m (record l { state = a.after l.state Nothing }) o).kind ≡ true
        → Told BeginSync (sync_idle t m (record l { state = a.after l.state Nothing }) o) ≡ gained t started BeginSync x
    idle_gains (Some u) k = absurd (false≢true k)
    idle_gains None k = stepped BeginSync

    sync_gains : (o : Option ℕ) → is_ran (sync_in t m (record l { state = a.after l.state Nothing }) o).kind ≡ true
        → Told BeginSync (sync_in t m (record l { state = a.after l.state Nothing }) o) ≡ gained t started BeginSync x
    sync_gains (Some u) k = absurd (false≢true k)
    sync_gains None k = idle_gains (busy t m) k

    spawn_gains : (f : ℕ) (y : ℤ) (b : Bool) (r : Turned S) → Told (Spawn f y) r ≡ gained t started (Spawn f y) x
        → Told (Spawn f y) (cond b r (halts t m (Trapped TooManyThreads))) ≡ item_if b t (Spawned w.started)
    spawn_gains f y true r h = h ∙ ap (λ n. record { t = t; what = Spawned n } ∷ []) (count ∙ sym g.started_is)
    spawn_gains f y false r h = halted (Spawn f y) (Trapped TooManyThreads)

    pub out_gains : (e : Event) → a.next l.state ≡ e → (d : EventStep a p t w l.state e v) → enters_order e ≡ true → is_ran (out_does a p t m l e).kind ≡ true
        → Told e (out_does a p t m l e) ≡ step_items a p t w l.state e v d
    out_gains Silent here d o k = absurd (false≢true o)
    out_gains (BeginAtomic kind) here d o k = absurd (false≢true o)
    out_gains EndAtomic here d o k = absurd d
    out_gains (Raise kind can) here d o k = absurd d
    out_gains (Load addr size vol) here d o k = access_gains (Load addr size vol) (Read addr size) (can_access p addr size) _ (Trapped BadAddress) refl
        (load_gains addr size vol (blocker t false (word_of addr) m)) k
    out_gains (Store addr size value vol) here d o k =
        access_gains (Store addr size value vol) (Write addr size) (can_access p addr size) _ (Trapped BadAddress)
        refl (store_gains addr size value vol (blocker t true (word_of addr) m)) k
    out_gains BeginSync here d o k = sync_gains (lock_owner t m.lock.holder) k
        ∙ ap (λ b. item_if b t Enter) (empty_is (a.blocks l.state) x.open_blocks all)
    out_gains EndSync here d o k =
        let come : in_sync (a.blocks l.state) ≡ true = ap (λ z. may_come z (a.blocks l.state)) (sym here) ∙ may in
        stepped EndSync ∙ ap (λ b. item_if b t Leave) (last_is (a.blocks l.state) x.open_blocks all (sync_open (a.blocks l.state) come))
    out_gains (Spawn f y) here d o k = spawn_gains f y (nat_lt m.started p.limit) _ (stepped (Spawn f y))
        ∙ ap (λ n. item_if (nat_lt n p.limit) t (Spawned w.started)) (sym g.started_is)
    out_gains (Join id) here d o k = join_gains id (target t id m.threads) k
        ∙ sym (target_shown a p m.memory w.memory t id m.threads w.threads g.shown)
    out_gains (Out c) here d o k = stepped (Out c)
    out_gains Inp here d o k = stepped Inp
    out_gains Done here d o k = stepped Done
    out_gains (Stop e) here d o k = halted (Stop e) e

  -- In an open transaction, whose block has come so far.
  module _ (b : ℕ) (k : S) (ss : List Save) (i : Inner S) (even : Even ss i.copies) (depth : x.atomic_blocks ≡ length ss)
      (deep : (x.atomic_blocks == 0) ≡ false) (atomic : x.atomic_blocks ≡ atomics (a.blocks l.state)) where
    -- the block is over, and the trace gains it; or the trace gains nothing
    abbrev pub By : Bool → BlockStep S → List Item → Type 0
    By true y zs = (is_over y ≡ true) × (zs ≡ (block_so_far t x ++ leave_items (x.at_entry == 1) t y))
    By false y zs = zs ≡ []

    abbrev pub adds_in : Turned S → Bool
    adds_in r = is_ran r.kind && (is_some r.machine.end || not (open_in (r.machine.threads t)))

    abbrev Row : Event → Turned S → BlockStep S → Type 0
    Row e r y = By (adds_in r) y (Told e r)

    halt_row : (e : Event) (end other : End) → Row e (halts t m end) (Halts other)
    halt_row e end other = (refl, ap (λ c. cond c [] (block_so_far t x)) deep ∙ sym (append-nil (block_so_far t x)))

    -- the thread goes on in its transaction
    on : (e : Event) (l' : Local S) (q : Machine S) (y : BlockStep S) → q.threads ≡ update m.threads t (Some l') → q.end ≡ m.end → is_open l'.tx ≡ true
        → gained t started e x ≡ [] → Row e (ran q) y
    on e l' q y ts end still none =
        let same : adds_in (ran q) ≡ false = ap (λ z. is_some z || not (open_in (q.threads t))) (end ∙ goes)
        ∙ (ap (λ f. not (open_in (f t))) ts ∙ (ap (λ z. not (open_in z)) (update_same m.threads t (Some l')) ∙ ap not still)) in
        subst (λ c. By c y (Told e (ran q))) (sym same) (ap (λ z. items_told t started e Ran z x) (end ∙ goes) ∙ none)

    no_access : (what : What) → access_outside t what x ≡ []
    no_access what = ap (λ c. item_if c t what) deep

    either_row : (e : Event) (c : Bool) (r s : Turned S) (y z : BlockStep S) → Row e r y → Row e s z → Row e (cond c r s) (cond c y z)
    either_row e true r s y z f h = f
    either_row e false r s y z f h = h

    clash_row : (e : Event) (choice : Choice) (z u : ℕ) (y : BlockStep S) → Row e (clashes p choice t m l b k ss z u) y
    clash_row e Wait z u y = refl
    clash_row e Yield z u y = refl

    load_row : (answer : Clash → Choice) (addr size : ℕ) (vol : Bool) (o : Option ℕ) (y : BlockStep S)
        → Row (Load addr size vol) (load_in a p answer t m l b k ss addr size o) y
    load_row answer addr size vol (Some u) y = clash_row (Load addr size vol) (answer (clash_of t false (word_of addr) m b u)) (word_of addr) u y
    load_row answer addr size vol None y =
        let l' : Local S = record l {
          state = a.after l.state (Loaded (load m.memory addr size));
          held = update l.held (word_of addr) true;
          tx = OpenTx b k ss;
        } in
        on (Load addr size vol) l' (steps t m l') y refl refl refl (no_access (Read addr size))

    store_row : (answer : Clash → Choice) (addr size value : ℕ) (vol : Bool) (o : Option ℕ) (y : BlockStep S)
        → Row (Store addr size value vol) (store_in a p answer t m l b k ss addr size value o) y
    store_row answer addr size value vol (Some u) y = clash_row (Store addr size value vol) (answer (clash_of t true (word_of addr) m b u)) (word_of addr) u y
    store_row answer addr size value vol None y =
        let l' : Local S = record l {
          state = a.after l.state Nothing;
          held = update l.held (word_of addr) true;
          wrote = update l.wrote (word_of addr) true;
          tx = OpenTx b k (note ss (word_of addr) (m.memory (word_of addr)));
        } in
        on (Store addr size value vol) l' (record (steps t m l') { memory = store m.memory addr size value }) y refl refl refl (no_access (Write addr size))

    inner_row : (e : Event) (ts : List Save) (y : BlockStep S) → gained t started e x ≡ []
        → Row e (ran (steps t m (record l { state = a.after l.state Nothing; tx = OpenTx b k ts }))) y
    inner_row e ts y none =
        let l' : Local S = record l { state = a.after l.state Nothing; tx = OpenTx b k ts } in
        on e l' (steps t m l') y refl refl refl none

    closed : (o : Option ℕ) → is_open {S = S} (closes b o) ≡ false
    closed None = refl
    closed (Some z) = refl

    module _ (e : Event) (ends : gained t started e x ≡ cond (x.atomic_blocks == 1) (whole_block t x) []) where
      outermost_row : (s : S) (memory : ℕ → ℕ) → x.atomic_blocks ≡ 1 → Row e (outermost p t m l (a.after l.state Nothing) b) (Leaves s memory)
      outermost_row s memory one =
          let l' : Local S = record l { state = a.after l.state Nothing; tx = closes b (least l.held (word_bound p)) } in
          let same : adds_in (outermost p t m l (a.after l.state Nothing) b) ≡ true =
          ap (λ z. is_some z || not (open_in (update m.threads t (Some l') t))) goes
          ∙ (ap (λ z. not (open_in z)) (update_same m.threads t (Some l')) ∙ ap not (closed (least l.held (word_bound p)))) in
          subst (λ c. By c (Leaves s memory) (Told e (outermost p t m l (a.after l.state Nothing) b))) (sym same) (
            refl,
            ap (λ z. items_told t started e Ran z x) goes
                ∙ (ends ∙ ap (λ c. cond c (whole_block t x) []) (eq-eqb x.atomic_blocks 1 one)),
          )

      more_open : (n o : Save) (ts : List Save) → x.atomic_blocks ≡ length (n ∷ o ∷ ts) → gained t started e x ≡ []
      more_open n o ts d = ends ∙ ap (λ c. cond c (whole_block t x) []) (ne_eqb x.atomic_blocks 1 (λ z. absurd (omega (arith, z, d))))

      commits_row : (memory : ℕ → ℕ) (ts : List Save) (cs : List (ℕ → ℕ)) → Even ts cs → x.atomic_blocks ≡ length ts
          → Row e (commits p t m l (a.after l.state Nothing) b k ts) (leave a i memory cs)
      commits_row memory [] cs f d = refl
      commits_row memory (n ∷ []) [] f d = absurd f
      commits_row memory (n ∷ []) (c ∷ []) f d = outermost_row (a.after i.state Nothing) memory d
      commits_row memory (n ∷ []) (c ∷ c' ∷ cs) f d = absurd f
      commits_row memory (n ∷ o ∷ ts) cs f d = inner_row e (hand n o ∷ ts) _ (more_open n o ts d)

      cancels_row : (memory : ℕ → ℕ) (n : Save) (ts : List Save) (cs : List (ℕ → ℕ)) → Even (n ∷ ts) cs → x.atomic_blocks ≡ length (n ∷ ts) → (o : Option ℕ)
          → Row e (cancels_by p t m l (a.after l.state Nothing) b k n ts o) (leave a i memory cs)
      cancels_row memory n ts cs f d (Some z) = refl
      cancels_row memory n [] [] f d None = absurd f
      cancels_row memory n [] (c ∷ []) f d None = outermost_row (a.after i.state Nothing) memory d
      cancels_row memory n [] (c ∷ c' ∷ cs) f d None = absurd f
      cancels_row memory n (o ∷ ts) cs f d None = inner_row e (o ∷ ts) _ (more_open n o ts d)

      saves_row : (memory : ℕ → ℕ) (ts : List Save) (cs : List (ℕ → ℕ)) → Even ts cs → x.atomic_blocks ≡ length ts
          → Row e (cancels p t m l (a.after l.state Nothing) b k ts) (leave a i memory cs)
      saves_row memory [] cs f d = refl
      saves_row memory (n ∷ ts) cs f d = cancels_row memory n ts cs f d (least (is_noted n) (word_bound p))

      raises_row : (kind : BlockKind) (can : Bool) → Row e (raises p t m l (a.after l.state Nothing) b k ss kind can) (raise a i kind can)
      raises_row NoExcept can = halt_row e Abort Abort
      raises_row Commit can = commits_row i.memory ss i.copies even depth
      raises_row Cancel true = saves_row (newest i.copies i.memory) ss i.copies even depth
      raises_row Cancel false = halt_row e Abort Abort

    nonzero : (atomics (a.blocks l.state) == 0) ≡ false
    nonzero = ap (λ n. n == 0) (sym atomic) ∙ deep

    pub in_gains : (answer : Clash → Choice) (e : Event) → a.next l.state ≡ e → Row e (in_does a p answer t m l b k ss e) (inner_by a p i e)
    in_gains answer Silent here = inner_row Silent ss _ refl
    in_gains answer (Load addr size vol) here = either_row (Load addr size vol) (can_access p addr size) _ _ _ _
        (load_row answer addr size vol (blocker t false (word_of addr) m) _) (halt_row (Load addr size vol) (Trapped BadAddress) (Trapped BadAddress))
    in_gains answer (Store addr size value vol) here = either_row (Store addr size value vol) (can_access p addr size) _ _ _ _
        (store_row answer addr size value vol (blocker t true (word_of addr) m) _)
        (halt_row (Store addr size value vol) (Trapped BadAddress) (Trapped BadAddress))
    in_gains answer (BeginAtomic kind) here = inner_row (BeginAtomic kind) (no_save ∷ ss) _ refl
    in_gains answer EndAtomic here = commits_row EndAtomic refl i.memory ss i.copies even depth
    in_gains answer (Raise kind can) here = raises_row (Raise kind can) refl kind can
    in_gains answer BeginSync here = inner_row BeginSync ss _
        (ap (λ c. item_if c t Enter) (empty_is (a.blocks l.state) x.open_blocks all ∙ some_open (a.blocks l.state) nonzero))
    in_gains answer EndSync here =
        let come : in_sync (a.blocks l.state) ≡ true = ap (λ z. may_come z (a.blocks l.state)) (sym here) ∙ may in
        inner_row EndSync ss _ (ap (λ c. item_if c t Leave) (last_is (a.blocks l.state) x.open_blocks all (sync_open (a.blocks l.state) come)
        ∙ deeper (a.blocks l.state) come nonzero))
    in_gains answer (Stop e) here = halt_row (Stop e) e e
    in_gains answer (Spawn f y) here = refl
    in_gains answer (Join id) here = refl
    in_gains answer (Out c) here = refl
    in_gains answer Inp here = refl
    in_gains answer Done here = refl

-- The step of a whole block, from just before its BeginAtomic: its items are those of any run of it.
module _ {S : Type 0} (a : Thread S) (p : MemoryLayout) (t : ℕ) (w v : World S) where
  abbrev pub whole : (q : S) {s : S} → Alone a p s w.memory → List Item
  whole q run = item_if (is_empty (a.blocks q)) t Enter ++ (inside_items t run.run ++ leave_items (is_empty (a.blocks q)) t (outcome run))

  pub block_items : (q k : S) (kind : BlockKind) → a.next q ≡ BeginAtomic kind → k ≡ a.after q Nothing → (other : Alone a p k w.memory)
      → (d : EventStep a p t w q (a.next q) v) → step_items a p t w q (a.next q) v d ≡ whole q other
  block_items q k kind next kept other d =
      subst (λ e. (c : EventStep a p t w q e v) → step_items a p t w q e v c ≡ whole q other) (sym next) (λ c. by_state c.1) d
    where
      by_state : (run : Alone a p (a.after q Nothing) w.memory) → whole q run ≡ whole q other
      by_state = subst (λ s. (run : Alone a p s w.memory) → whole q run ≡ whole q other) kept (λ run.
          ap (λ zs. item_if (is_empty (a.blocks q)) t Enter ++ (zs ++ leave_items (is_empty (a.blocks q)) t (outcome run)))
          (same_block a p t k w.memory run other)
          ∙ ap (λ y. item_if (is_empty (a.blocks q)) t Enter ++ (inside_items t other.run ++ leave_items (is_empty (a.blocks q)) t y))
          (same_outcome a p k w.memory run other))
