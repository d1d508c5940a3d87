-- Where a turn may take memory.
use Rattle.std.proofs.Common.{ℕ, ℤ, ◌≡◌, ◌==◌, Bool, true, false, cond, List, [], ◌∷◌, Option, Some, None, refl, ap, sym, ◌∙◌, subst}
use Rattle.std.specs.Prelude.{nat_lt, is_some}
use Rattle.std.proofs.lemmas.Bool.{true≢false, false≢true, eqb-false}
use Rattle.choosers.specs.declared.Clash.{Clash}
use Rattle.choosers.specs.declared.Choice.{Choice}
use Rattle.choosers.specs.declared.Choice.TheVariants.{Wait, Yield}
use Rattle.tx_events.specs.declared.BlockKind.TheVariants.{NoExcept, Commit, Cancel}
use Rattle.tx_events.specs.declared.Event.{Event}
use Rattle.tx_events.specs.declared.Event.TheVariants.{Silent, Load, Store, Out, Inp, Spawn, Join, BeginAtomic, EndAtomic, Raise, BeginSync, EndSync, Done}
use Rattle.tx_events.specs.declared.Event.TheVariants.{Stop}
use Rattle.tx_events.specs.declared.Reply.TheVariants.{Nothing}
use Rattle.tx_events.specs.Memory.{MemoryLayout, can_access, word_of, word_bound}
use Rattle.tx_events.specs.Thread.{Thread}
use Rattle.tx_events.specs.World.{target}
use Rattle.tx_events.proofs.BlockRuns.{update_same}
use Rattle.tx_serial.specs.Machine.{Machine, Local, Save, OpenTx, GivingUp, blocker, busy, lock_owner, clash_of, least, is_noted}
use Rattle.tx_serial.specs.Shows.{cancelling}
use Rattle.tx_serial.specs.Turn.{Turned, load_out, store_out, begins, sync_idle, sync_in, joins, out_does, clashes, load_in, store_in, commits, cancels_by}
use Rattle.tx_serial.specs.Turn.{in_does, without, given_back, gives_back, turn}
use Rattle.tx_serial.proofs.SearchLemmas.{eldest_some}
use Rattle.tx_runtime.specs.declared.engine.Engine.{Engine}
use Rattle.tx_runtime.specs.Here.{GoesOutside, GoesInside, GivesUp}
use Rattle.tx_runtime.specs.Allocation.{is_undone_or_released, PutsBack, MayAllocate}
use Rattle.tx_runtime.specs.Saves.{newest}
use Rattle.tx_runtime.specs.View.{machine_in, layout_in}
use Rattle.tx_runtime.proofs.ConflictingThreads.{no_least}
use Rattle.tx_runtime.proofs.ThreadTables.{started_thread}
use Rattle.tx_runtime.proofs.AppliedRow.{going_turn, outside_turn, inside_turn}

-- the rows of other kinds

abbrev Other : {S : Type 0} → Turned S → Type 0
Other r = is_undone_or_released r.kind ≡ false

module _ {S : Type 0} (a : Thread S) (p : MemoryLayout) (t : ℕ) (m : Machine S) where
  either : (b : Bool) (x y : Turned S) → Other x → Other y → Other (cond b x y)
  either true x y f g = f
  either false x y f g = g

  load_out_other : (l : Local S) (addr size : ℕ) (o : Option ℕ) → Other (load_out a t m l addr size o)
  load_out_other l addr size (Some u) = refl
  load_out_other l addr size None = refl

  store_out_other : (l : Local S) (addr size value : ℕ) (o : Option ℕ) → Other (store_out a t m l addr size value o)
  store_out_other l addr size value (Some u) = refl
  store_out_other l addr size value None = refl

  begin_other : (l : Local S) (s : S) (o : Option ℕ) → Other (begins t m l s o)
  begin_other l s (Some u) = refl
  begin_other l s None = refl

  idle_other : (l : Local S) (o : Option ℕ) → Other (sync_idle t m l o)
  idle_other l (Some u) = refl
  idle_other l None = refl

  sync_other : (l : Local S) (o : Option ℕ) → Other (sync_in t m l o)
  sync_other l (Some u) = refl
  sync_other l None = idle_other l (busy t m)

  join_other : (l : Local S) (id : ℤ) (o : Option (Local S)) → Other (joins t id m l o)
  join_other l id None = refl
  join_other l id (Some u) = either u.ended _ _ refl refl

  out_other : (l : Local S) (e : Event) → Other (out_does a p t m l e)
  out_other l Silent = refl
  out_other l (Load addr size vol) = either (can_access p addr size) _ _ (load_out_other l addr size (blocker t false (word_of addr) m)) refl
  out_other l (Store addr size value vol) = either (can_access p addr size) _ _ (store_out_other l addr size value (blocker t true (word_of addr) m)) refl
  out_other l (BeginAtomic kind) = begin_other l (a.after l.state Nothing) (lock_owner t m.lock.holder)
  out_other l EndAtomic = refl
  out_other l (Raise kind can) = refl
  out_other l BeginSync = sync_other (record l { state = a.after l.state Nothing }) (lock_owner t m.lock.holder)
  out_other l EndSync = refl
  out_other l (Spawn f x) = either (nat_lt m.started p.limit) _ _ refl refl
  out_other l (Join id) = join_other (record l { state = a.after l.state Nothing }) id (target t id m.threads)
  out_other l (Out byte) = refl
  out_other l Inp = refl
  out_other l Done = refl
  out_other l (Stop e) = refl

  clash_other : (choice : Choice) (l : Local S) (b : ℕ) (k : S) (ss : List Save) (x u : ℕ) → Other (clashes p choice t m l b k ss x u)
  clash_other Wait l b k ss x u = refl
  clash_other Yield l b k ss x u = refl

  module _ (answer : Clash → Choice) (l : Local S) (b : ℕ) (k : S) where
    load_in_other : (ss : List Save) (addr size : ℕ) (o : Option ℕ) → Other (load_in a p answer t m l b k ss addr size o)
    load_in_other ss addr size (Some u) = clash_other (answer (clash_of t false (word_of addr) m b u)) l b k ss (word_of addr) u
    load_in_other ss addr size None = refl

    store_in_other : (ss : List Save) (addr size value : ℕ) (o : Option ℕ) → Other (store_in a p answer t m l b k ss addr size value o)
    store_in_other ss addr size value (Some u) = clash_other (answer (clash_of t true (word_of addr) m b u)) l b k ss (word_of addr) u
    store_in_other ss addr size value None = refl

    commit_other : (s : S) (ss : List Save) → Other (commits p t m l s b k ss)
    commit_other s [] = refl
    commit_other s (n ∷ []) = refl
    commit_other s (n ∷ o ∷ ss) = refl

    in_other : (ss : List Save) (e : Event) → cancelling e ≡ false → Other (in_does a p answer t m l b k ss e)
    in_other ss Silent h = refl
    in_other ss (Load addr size vol) h = either (can_access p addr size) _ _ (load_in_other ss addr size (blocker t false (word_of addr) m)) refl
    in_other ss (Store addr size value vol) h = either (can_access p addr size) _ _ (store_in_other ss addr size value (blocker t true (word_of addr) m)) refl
    in_other ss (BeginAtomic kind) h = refl
    in_other ss EndAtomic h = commit_other (a.after l.state Nothing) ss
    in_other ss (Raise NoExcept can) h = refl
    in_other ss (Raise Commit can) h = commit_other (a.after l.state Nothing) ss
    in_other ss (Raise Cancel true) h = absurd (true≢false h)
    in_other ss (Raise Cancel false) h = refl
    in_other ss BeginSync h = refl
    in_other ss EndSync h = refl
    in_other ss (Spawn f x) h = refl
    in_other ss (Join id) h = refl
    in_other ss (Out byte) h = refl
    in_other ss Inp h = refl
    in_other ss Done h = refl
    in_other ss (Stop e) h = refl

    -- a Raise that cancels, where no word is left to put back
    cancel_by_other : (s : S) (n : Save) (ss : List Save) (o : Option ℕ) → o ≡ None → Other (cancels_by p t m l s b k n ss o)
    cancel_by_other s n ss (Some x) h = absurd (cc)
    cancel_by_other s n [] None h = refl
    cancel_by_other s n (o ∷ ss) None h = refl

    cancel_other : (ss : List Save) → ((x : ℕ) → newest ss x ≡ None) → Other (in_does a p answer t m l b k ss (Raise Cancel true))
    cancel_other [] none = refl
    cancel_other (n ∷ ss) none = cancel_by_other (a.after l.state Nothing) n ss (least (is_noted n) (word_bound p))
        (no_least (is_noted n) (word_bound p) (λ v h. ap is_some (none v)))

-- a turn of another kind

other_may : {S : Type 0} (a : Thread S) (p : MemoryLayout) (t : ℕ) (m : Machine S) → ((answer : Clash → Choice) → Other (turn a p answer t m))
    → MayAllocate a p t m
other_may a p t m other answer h = absurd (false≢true (sym (other answer) ∙ h))

-- the last word of those for which f holds

without_one : (f : ℕ → Bool) (w v : ℕ) → ((y : ℕ) → f y ≡ true → y ≡ w) → without f w v ≡ false
without_one f w v one = elim (v == w) as (λ b. (v == w) ≡ b → cond b false (f v) ≡ false) [
  | true ↦ λ e. refl
  | false ↦ λ e. elim (f v) as (λ b. f v ≡ b → b ≡ false) [
    | true ↦ λ i. absurd (eqb-false v w e (one v i))
    | false ↦ λ i. refl
  ] refl
] refl

pub last_word : (f : ℕ → Bool) (n x w : ℕ) → ((y : ℕ) → f y ≡ true → y ≡ x) → least f n ≡ Some w → least (without f w) n ≡ None
last_word f n x w one e = no_least (without f w) n (λ v h. without_one f w v (λ y i. one y i ∙ sym (one w (eldest_some f (λ k. k) n w e))))

module _ {A K S : Type 0} (state : A → S) (saved : K → S) (a : Thread S) (e : Engine A K) (t : ℕ) where
  pub outside_may : (R : S → Type 0) (event : Event) → GoesOutside R a t (machine_in state saved e) event
      → MayAllocate a (layout_in e) t (machine_in state saved e)
  outside_may R event here =
      let m = machine_in state saved e in
      let there = started_thread state saved e t here.started in
      other_may a (layout_in e) t m (λ answer. subst Other (outside_turn a (layout_in e) answer t m there.0 R event here there.1)
      (out_other a (layout_in e) t m there.0 event))

  pub inside_may : (R : S → Type 0) (event : Event) → GoesInside R a t (machine_in state saved e) event → cancelling event ≡ false
      → MayAllocate a (layout_in e) t (machine_in state saved e)
  inside_may R event here quiet =
      let m = machine_in state saved e in
      let there = started_thread state saved e t here.started in
      let i = here.at there.0 there.1 in
      other_may a (layout_in e) t m (λ answer. subst Other (inside_turn a (layout_in e) answer t m there.0 R event i.birth i.kept i.saves here there.1 i.tx)
      (in_other a (layout_in e) t m answer there.0 i.birth i.kept i.saves event quiet))

  pub cancel_may : (R : S → Type 0) → GoesInside R a t (machine_in state saved e) (Raise Cancel true)
      → ((l : Local S) (b : ℕ) (k : S) (ss : List Save) (x : ℕ) → (machine_in state saved e).threads t ≡ Some l → l.tx ≡ OpenTx b k ss → newest ss x ≡ None)
      → MayAllocate a (layout_in e) t (machine_in state saved e)
  cancel_may R here none =
      let m = machine_in state saved e in
      let there = started_thread state saved e t here.started in
      let i = here.at there.0 there.1 in
      other_may a (layout_in e) t m (λ answer. subst Other
      (inside_turn a (layout_in e) answer t m there.0 R (Raise Cancel true) i.birth i.kept i.saves here there.1 i.tx)
      (cancel_other a (layout_in e) t m answer there.0 i.birth i.kept i.saves (λ x. none there.0 i.birth i.kept i.saves x there.1 i.tx)))

  -- the last word of a transaction that gives up
  pub giving_may : GivesUp t (machine_in state saved e)
      → ((l : Local S) (x : ℕ) → (machine_in state saved e).threads t ≡ Some l → least l.held (word_bound (layout_in e)) ≡ Some x
      → least (without l.held x) (word_bound (layout_in e)) ≡ None)
      → MayAllocate a (layout_in e) t (machine_in state saved e)
  giving_may here last answer =
      let m = machine_in state saved e in
      let there = started_thread state saved e t here.started in
      let is = here.at there.0 there.1 in
      subst (λ (r : Turned S). is_undone_or_released r.kind ≡ true → PutsBack t m r.machine)
      (going_turn a (layout_in e) answer t m there.0 (GivingUp is.1.0 is.1.1 is.1.2) here.going there.1 is.0 is.1.3)
      (by_least there.0 is.1.0 is.1.1 is.1.2 there.1 is.1.3 (least there.0.held (word_bound (layout_in e))) refl)
    where
      by_least : (l : Local S) (b : ℕ) (k : S) (ss : List Save) → (machine_in state saved e).threads t ≡ Some l → l.tx ≡ GivingUp b k ss → (o : Option ℕ)
          → least l.held (word_bound (layout_in e)) ≡ o
          → is_undone_or_released (gives_back (layout_in e) t (machine_in state saved e) l b k ss o).kind ≡ true
          → PutsBack t (machine_in state saved e) (gives_back (layout_in e) t (machine_in state saved e) l b k ss o).machine
      by_least l b k ss at tx None q h = absurd (false≢true h)
      by_least l b k ss at tx (Some x) q h = record {
        local = l;
        birth = b;
        kept = k;
        saves = ss;
        was = at;
        giving = tx;
        stands = update_same (machine_in state saved e).threads t (Some (given_back l b k ss x (least (without l.held x) (word_bound (layout_in e)))))
            ∙ ap (λ o. Some (given_back l b k ss x o)) (last l x at q);
      }
