-- A history in the state changes nothing.
use Rattle.std.proofs.Common.{ℕ, ℤ, pos, negsuc, zero, suc, ◌≡◌, ◌==◌, Bool, true, false, cond, refl, ap, sym, ◌∙◌, subst, List, [], ◌∷◌, Option, Some, None}
use Rattle.std.specs.Prelude.{not, ◌&&◌, ◌||◌, nat_lt}
use Rattle.std.proofs.Math.Path.{fun_ext}
use Rattle.tx_events.specs.declared.End.{End}
use Rattle.tx_events.specs.declared.BlockKind.{BlockKind}
use Rattle.tx_events.specs.declared.BlockKind.TheVariants.{NoExcept, Commit, Cancel}
use Rattle.tx_events.specs.declared.Event.{Event}
use Rattle.tx_events.specs.declared.Event.TheVariants.{
  Silent,
  Load,
  Store,
  Out,
  Inp,
  Spawn,
  Join,
  BeginAtomic,
  EndAtomic,
  Raise,
  BeginSync,
  EndSync,
  Done,
  Stop,
}
use Rattle.tx_events.specs.declared.Reply.{Reply}
use Rattle.tx_events.specs.declared.Reply.TheVariants.{Nothing, Loaded, Byte, Id}
use Rattle.choosers.specs.declared.Clash.{Clash}
use Rattle.choosers.specs.declared.Choice.{Choice}
use Rattle.choosers.specs.declared.Choice.TheVariants.{Wait, Yield}
use Rattle.tx_events.specs.Thread.{Thread}
use Rattle.tx_events.specs.Memory.{update, MemoryLayout, can_access, word_of, word_bound, load}
use Rattle.tx_events.specs.World.{target, byte_of}
use Rattle.tx_serial.specs.Machine.{
  greatest,
  count,
  waits_at,
  lock_owner,
  clash_of,
  Machine,
  Local,
  Tx,
  NoTx,
  OpenTx,
  GivingUp,
  Closing,
  Save,
  no_save,
  held_by,
  wrote_by,
  live_in,
  is_live,
  birth,
  birth_of,
  conflicts_with,
  hand,
  note,
  forget,
  blocker,
  busy,
  least,
  eldest,
  is_noted,
  wait_more,
}
use Rattle.tx_serial.specs.Turn.{
  Slot,
  Turned,
  bare,
  clashes,
  gives_up,
  closes,
  without,
  waited,
  load_in,
  store_in,
  load_out,
  store_out,
  joins,
  begins,
  sync_in,
  sync_idle,
  outermost,
  commits,
  cancels_by,
  cancels,
  raises,
  in_does,
  out_does,
  lets_go,
  given_back,
  gives_back,
  turn_in,
  turn_of,
  turn_at,
  turn,
  turns,
  first_machine,
  first_thread,
}
use Rattle.tx_serial.specs.Bound.{with_more}

-- the erased machine, where its threads are these
threads_are : {S : Type 0} (r : Machine S) (g : ℕ → Option (Local S)) → g ≡ r.threads → record r { threads = g } ≡ r
threads_are r g e = ap (λ f. record r { threads = f }) e

module _ {S X : Type 0} where
  abbrev pub erase_tx : Tx (S × X) → Tx S
  erase_tx NoTx = NoTx
  erase_tx (OpenTx b k ss) = OpenTx b k.0 ss
  erase_tx (GivingUp b k ss) = GivingUp b k.0 ss
  erase_tx (Closing b) = Closing b

  abbrev pub erase_local : Local (S × X) → Local S
  erase_local l = record { state = l.state.0; ended = l.ended; held = l.held; wrote = l.wrote; tx = erase_tx l.tx }

  abbrev pub erase_opt : Option (Local (S × X)) → Option (Local S)
  erase_opt None = None
  erase_opt (Some l) = Some (erase_local l)

  abbrev pub erase : Machine (S × X) → Machine S
  erase m = record {
    memory = m.memory;
    threads = λ u. erase_opt (m.threads u);
    started = m.started;
    lock = m.lock;
    births = m.births;
    waits = m.waits;
    out = m.out;
    input = m.input;
    order = m.order;
    end = m.end;
  }

  birth_same : (o : Option (Local (S × X))) → birth_of (erase_opt o) ≡ birth_of o
  birth_same None = refl
  birth_same (Some l) = by l.tx
    where
      by : (z : Tx (S × X)) → birth (erase_tx z) ≡ birth z
      by NoTx = refl
      by (OpenTx b k ss) = refl
      by (GivingUp b k ss) = refl
      by (Closing b) = refl

  live_same : (o : Option (Local (S × X))) → live_in (erase_opt o) ≡ live_in o
  live_same None = refl
  live_same (Some l) = by l.tx
    where
      by : (z : Tx (S × X)) → is_live (erase_tx z) ≡ is_live z
      by NoTx = refl
      by (OpenTx b k ss) = refl
      by (GivingUp b k ss) = refl
      by (Closing b) = refl

  keeps_same : (t : ℕ) (store : Bool) (x u : ℕ) (o : Option (Local (S × X)))
      → (not (u == t) && cond store (held_by (erase_opt o) x) (wrote_by (erase_opt o) x)) ≡ (not (u == t) && cond store (held_by o x) (wrote_by o x))
  keeps_same t store x u None = refl
  keeps_same t store x u (Some l) = refl

  blocker_same : (t : ℕ) (store : Bool) (x : ℕ) (m : Machine (S × X)) → blocker t store x (erase m) ≡ blocker t store x m
  blocker_same t store x m =
      let p = fun_ext (λ u. keeps_same t store x u (m.threads u)) in
      let f = fun_ext (λ u. birth_same (m.threads u)) in
      ap (λ q. eldest q (λ u. birth_of (erase_opt (m.threads u))) m.started) p ∙ ap (λ g. eldest (conflicts_with t store x m.threads) g m.started) f

  busy_same : (t : ℕ) (m : Machine (S × X)) → busy t (erase m) ≡ busy t m
  busy_same t m = ap (λ q. least q m.started) (fun_ext (λ u. ap (λ b. not (u == t) && b) (live_same (m.threads u))))

  -- and the clash is the same
  clash_same : (t : ℕ) (store : Bool) (x b u : ℕ) (m : Machine (S × X)) → clash_of t store x (erase m) b u ≡ clash_of t store x m b u
  clash_same t store x b u m =
      let off = fun_ext (λ v. keeps_same t store x v (m.threads v)) in
      let age = fun_ext (λ v. birth_same (m.threads v)) in
      let most = ap (λ q. greatest q (λ v. birth_of (erase_opt (m.threads v))) m.started) off
      ∙ ap (λ g. greatest (conflicts_with t store x m.threads) g m.started) age in
      let many = ap (λ q. count q m.started) off in
      let least = birth_same (m.threads u) in
      λ i. record { mine = b; least = least i; greatest = most i; count = many i; waits = waits_at (m.waits t) x (least i) }

  update_erased : (f : ℕ → Option (Local (S × X))) (t : ℕ) (l : Local (S × X))
      → (λ u. erase_opt (update f t (Some l) u)) ≡ update (λ u. erase_opt (f u)) t (Some (erase_local l))
  update_erased f t l = fun_ext
      (λ u. elim (u == t) as (λ b. erase_opt (cond b (Some l) (f u)) ≡ cond b (Some (erase_local l)) (erase_opt (f u))) [ true ↦ refl | false ↦ refl ])

module _ {S X : Type 0} (x0 : X) (h : X → Event → Reply → X) (a : Thread S) (p : MemoryLayout) (t : ℕ) (m : Machine (S × X)) (l : Local (S × X)) where
  abbrev C : Thread (S × X)
  C = with_more x0 h a

  abbrev Erased : Turned (S × X) → Turned S → Type 0
  Erased r q = erase r.machine ≡ q.machine

  either : (b : Bool) (x y : Turned (S × X)) (z w : Turned S) → Erased x z → Erased y w → Erased (cond b x y) (cond b z w)
  either true x y z w f g = f
  either false x y z w f g = g

  -- the thread goes on
  go : (l' : Local (S × X)) (r : Machine S) → update (λ u. erase_opt (m.threads u)) t (Some (erase_local l')) ≡ r.threads
      → record r { threads = λ u. erase_opt (update m.threads t (Some l') u) } ≡ r
  go l' r e = threads_are r (λ u. erase_opt (update m.threads t (Some l') u)) (update_erased m.threads t l' ∙ e)

  waited_erased : (x u : ℕ) → Erased (waited t m x u) (waited t (erase m) x u)
  waited_erased x u = sym (ap (λ b. record (erase m) { waits = update m.waits t (wait_more (m.waits t) x b) }) (birth_same (m.threads u)))

  load_out_erased : (addr size : ℕ) (o : Option ℕ) → Erased (load_out C t m l addr size o) (load_out a t (erase m) (erase_local l) addr size o)
  load_out_erased addr size (Some u) = waited_erased (word_of addr) u
  load_out_erased addr size None = go (record l { state = C.after l.state (Loaded (load m.memory addr size)) }) _ refl

  store_out_erased : (addr size value : ℕ) (o : Option ℕ) → Erased (store_out C t m l addr size value o)
      (store_out a t (erase m) (erase_local l) addr size value o)
  store_out_erased addr size value (Some u) = waited_erased (word_of addr) u
  store_out_erased addr size value None = go (record l { state = C.after l.state Nothing }) _ refl

  next_local : Local (S × X)
  next_local = record l { state = C.after l.state Nothing }

  joins_erased : (id : ℤ) (o : Option (Local (S × X))) → Erased (joins t id m (record l { state = C.after l.state Nothing }) o)
      (joins t id (erase m) (erase_local (record l { state = C.after l.state Nothing })) (erase_opt o))
  joins_erased id None = refl
  joins_erased id (Some u) = either u.ended _ _ _ _ (go (record l { state = C.after l.state Nothing }) _ refl) refl

  target_same : (id : ℤ) → target t id (erase m).threads ≡ erase_opt (target t id m.threads)
  target_same (negsuc n) = refl
  target_same (pos n) = elim ((n == 0) || (n == t)) as (λ b. cond b None (erase_opt (m.threads n)) ≡ erase_opt (cond b None (m.threads n))) [
    | true ↦ refl
    | false ↦ refl
  ]

  idle_erased : (o : Option ℕ) → Erased (sync_idle t m (record l { state = C.after l.state Nothing }) o)
      (sync_idle t (erase m) (erase_local (record l { state = C.after l.state Nothing })) o)
  idle_erased (Some u) = refl
  idle_erased None = go (record l { state = C.after l.state Nothing }) _ refl

  sync_erased : (o : Option ℕ) → Erased (sync_in t m (record l { state = C.after l.state Nothing }) o)
      (sync_in t (erase m) (erase_local (record l { state = C.after l.state Nothing })) o)
  sync_erased (Some u) = refl
  sync_erased None = subst
      (λ o. Erased (sync_idle t m (record l { state = C.after l.state Nothing }) (busy t m))
      (sync_idle t (erase m) (erase_local (record l { state = C.after l.state Nothing })) o)) (sym (busy_same t m)) (idle_erased (busy t m))

  begin_erased : (o : Option ℕ) → Erased (begins t m l (C.after l.state Nothing) o) (begins t (erase m) (erase_local l) (a.after l.state.0 Nothing) o)
  begin_erased (Some u) = refl
  begin_erased None = go (record l { state = C.after l.state Nothing; tx = OpenTx m.births (C.after l.state Nothing) (no_save ∷ []) }) _ refl

  out_erased : (e : Event) → l.tx ≡ NoTx → a.next l.state.0 ≡ e → Erased (out_does C p t m l e) (out_does a p t (erase m) (erase_local l) e)
  out_erased Silent z i = go (record l { state = C.after l.state Nothing }) _ refl
  out_erased (Load addr size vol) z i = either (can_access p addr size) _ _ _ _
      (subst (λ o. Erased (load_out C t m l addr size (blocker t false (word_of addr) m)) (load_out a t (erase m) (erase_local l) addr size o))
      (sym (blocker_same t false (word_of addr) m)) (load_out_erased addr size (blocker t false (word_of addr) m))) refl
  out_erased (Store addr size value vol) z i = either (can_access p addr size) _ _ _ _
      (subst (λ o. Erased (store_out C t m l addr size value (blocker t true (word_of addr) m)) (store_out a t (erase m) (erase_local l) addr size value o))
      (sym (blocker_same t true (word_of addr) m)) (store_out_erased addr size value (blocker t true (word_of addr) m))) refl
  out_erased (BeginAtomic kind) z i = begin_erased (lock_owner t m.lock.holder)
  out_erased EndAtomic z i = refl
  out_erased (Raise kind can) z i = refl
  out_erased BeginSync z i = sync_erased (lock_owner t m.lock.holder)
  out_erased EndSync z i = go (record l { state = C.after l.state Nothing }) _ refl
  out_erased (Spawn g x) z i =
      let c = C.child l.state m.started g x in
      let l' : Local (S × X) = record l { state = C.after l.state (Id (pos m.started)) } in
      either (nat_lt m.started p.limit) _ _ _ _
      (threads_are _ (λ u. erase_opt (update (update m.threads m.started (Some (bare c))) t (Some l') u))
      (update_erased (update m.threads m.started (Some (bare c))) t l'
      ∙ ap (λ f. update f t (Some (erase_local l'))) (update_erased m.threads m.started (bare c))))
      refl
  out_erased (Join id) z i = subst
      (λ o. Erased (joins t id m (record l { state = C.after l.state Nothing }) (target t id m.threads))
      (joins t id (erase m) (erase_local (record l { state = C.after l.state Nothing })) o)) (sym (target_same id)) (joins_erased id (target t id m.threads))
  out_erased (Out c) z i = go (record l { state = C.after l.state Nothing }) _ refl
  out_erased Inp z i = go (record l { state = C.after l.state (Byte (byte_of m.input)) }) _ refl
  out_erased Done z i = go (record l { state = C.after l.state Nothing; ended = true }) _ refl
  out_erased (Stop e) z i = refl

  module _ (b : ℕ) (k : S × X) (ss : List Save) where
    gives_erased : (o : Option ℕ) → erase_local (gives_up l b k ss o) ≡ gives_up (erase_local l) b k.0 ss o
    gives_erased None = refl
    gives_erased (Some x) = refl

    clash_erased : (choice : Choice) (x u : ℕ) → Erased (clashes p choice t m l b k ss x u) (clashes p choice t (erase m) (erase_local l) b k.0 ss x u)
    clash_erased Wait x u = waited_erased x u
    clash_erased Yield x u = go (gives_up l b k ss (least l.held (word_bound p))) _
        (ap (λ z. update (λ u. erase_opt (m.threads u)) t (Some z)) (gives_erased (least l.held (word_bound p))))

    asked_erased : (answer : Clash → Choice) (store : Bool) (x u : ℕ) → Erased (clashes p (answer (clash_of t store x m b u)) t m l b k ss x u)
        (clashes p (answer (clash_of t store x (erase m) b u)) t (erase m) (erase_local l) b k.0 ss x u)
    asked_erased answer store x u =
        subst (λ c. Erased (clashes p (answer (clash_of t store x m b u)) t m l b k ss x u) (clashes p (answer c) t (erase m) (erase_local l) b k.0 ss x u))
        (sym (clash_same t store x b u m))
        (clash_erased (answer (clash_of t store x m b u)) x u)

    load_in_erased : (answer : Clash → Choice) (addr size : ℕ) (o : Option ℕ)
        → Erased (load_in C p answer t m l b k ss addr size o) (load_in a p answer t (erase m) (erase_local l) b k.0 ss addr size o)
    load_in_erased answer addr size (Some u) = asked_erased answer false (word_of addr) u
    load_in_erased answer addr size None = go
        (record l { state = C.after l.state (Loaded (load m.memory addr size)); held = update l.held (word_of addr) true; tx = OpenTx b k ss }) _ refl

    store_in_erased : (answer : Clash → Choice) (addr size value : ℕ) (o : Option ℕ)
        → Erased (store_in C p answer t m l b k ss addr size value o) (store_in a p answer t (erase m) (erase_local l) b k.0 ss addr size value o)
    store_in_erased answer addr size value (Some u) = asked_erased answer true (word_of addr) u
    store_in_erased answer addr size value None = go
        (record l {
          state = C.after l.state Nothing;
          held = update l.held (word_of addr) true;
          wrote = update l.wrote (word_of addr) true;
          tx = OpenTx b k (note ss (word_of addr) (m.memory (word_of addr)));
        }) _ refl

    closes_erased : (o : Option ℕ) → erase_tx {S = S} {X = X} (closes b o) ≡ closes b o
    closes_erased None = refl
    closes_erased (Some x) = refl

    outermost_erased : (s : S × X) → Erased (outermost p t m l s b) (outermost p t (erase m) (erase_local l) s.0 b)
    outermost_erased s = go (record l { state = s; tx = closes b (least l.held (word_bound p)) }) _
        (ap (λ z. update (λ u. erase_opt (m.threads u)) t (Some (record (erase_local l) { state = s.0; tx = z })))
        (closes_erased (least l.held (word_bound p))))

    commits_erased : (s : S × X) (ts : List Save) → Erased (commits p t m l s b k ts) (commits p t (erase m) (erase_local l) s.0 b k.0 ts)
    commits_erased s [] = refl
    commits_erased s (n ∷ []) = outermost_erased s
    commits_erased s (n ∷ o ∷ ts) = go (record l { state = s; tx = OpenTx b k (hand n o ∷ ts) }) _ refl

    cancels_erased : (s : S × X) (n : Save) (ts : List Save) (o : Option ℕ)
        → Erased (cancels_by p t m l s b k n ts o) (cancels_by p t (erase m) (erase_local l) s.0 b k.0 n ts o)
    cancels_erased s n ts (Some x) = go (record l { tx = OpenTx b k (forget n x ∷ ts) }) _ refl
    cancels_erased s n [] None = outermost_erased s
    cancels_erased s n (o ∷ ts) None = go (record l { state = s; tx = OpenTx b k (o ∷ ts) }) _ refl

    saves_erased : (s : S × X) (ts : List Save) → Erased (cancels p t m l s b k ts) (cancels p t (erase m) (erase_local l) s.0 b k.0 ts)
    saves_erased s [] = refl
    saves_erased s (n ∷ ts) = cancels_erased s n ts (least (is_noted n) (word_bound p))

    raises_erased : (s : S × X) (kind : BlockKind) (can : Bool) → Erased (raises p t m l s b k ss kind can)
        (raises p t (erase m) (erase_local l) s.0 b k.0 ss kind can)
    raises_erased s NoExcept can = refl
    raises_erased s Commit can = commits_erased s ss
    raises_erased s Cancel true = saves_erased s ss
    raises_erased s Cancel false = refl

    in_erased : (answer : Clash → Choice) (e : Event) → Erased (in_does C p answer t m l b k ss e) (in_does a p answer t (erase m) (erase_local l) b k.0 ss e)
    in_erased answer Silent = go (record l { state = C.after l.state Nothing; tx = OpenTx b k ss }) _ refl
    in_erased answer (Load addr size vol) = either (can_access p addr size) _ _ _ _
        (subst (λ o. Erased (load_in C p answer t m l b k ss addr size (blocker t false (word_of addr) m))
        (load_in a p answer t (erase m) (erase_local l) b k.0 ss addr size o)) (sym (blocker_same t false (word_of addr) m))
        (load_in_erased answer addr size (blocker t false (word_of addr) m))) refl
    in_erased answer (Store addr size value vol) = either (can_access p addr size) _ _ _ _
        (subst (λ o. Erased (store_in C p answer t m l b k ss addr size value (blocker t true (word_of addr) m))
        (store_in a p answer t (erase m) (erase_local l) b k.0 ss addr size value o)) (sym (blocker_same t true (word_of addr) m))
        (store_in_erased answer addr size value (blocker t true (word_of addr) m))) refl
    in_erased answer (BeginAtomic kind) = go (record l { state = C.after l.state Nothing; tx = OpenTx b k (no_save ∷ ss) }) _ refl
    in_erased answer EndAtomic = commits_erased (C.after l.state Nothing) ss
    in_erased answer (Raise kind can) = raises_erased (C.after l.state Nothing) kind can
    in_erased answer BeginSync = go (record l { state = C.after l.state Nothing; tx = OpenTx b k ss }) _ refl
    in_erased answer EndSync = go (record l { state = C.after l.state Nothing; tx = OpenTx b k ss }) _ refl
    in_erased answer (Stop e) = refl
    in_erased answer (Spawn g x) = refl
    in_erased answer (Join id) = refl
    in_erased answer (Out c) = refl
    in_erased answer Inp = refl
    in_erased answer Done = refl

    back_local : (x : ℕ) (o : Option ℕ) → erase_local (given_back l b k ss x o) ≡ given_back (erase_local l) b k.0 ss x o
    back_local x None = refl
    back_local x (Some y) = refl

    back_erased : (o : Option ℕ) → Erased (gives_back p t m l b k ss o) (gives_back p t (erase m) (erase_local l) b k.0 ss o)
    back_erased None = refl
    back_erased (Some x) = go (given_back l b k ss x (least (without l.held x) (word_bound p))) _
        (ap (λ z. update (λ u. erase_opt (m.threads u)) t (Some z)) (back_local x (least (without l.held x) (word_bound p))))

  go_erased : (b : ℕ) (o : Option ℕ) → Erased (lets_go p t m l b o) (lets_go p t (erase m) (erase_local l) b o)
  go_erased b None = refl
  go_erased b (Some x) = go (record l { held = without l.held x; wrote = without l.wrote x; tx = closes b (least (without l.held x) (word_bound p)) }) _
      (ap (λ z. update (λ u. erase_opt (m.threads u)) t (Some (record (erase_local l) { held = without l.held x; wrote = without l.wrote x; tx = z })))
      (closes_same (least (without l.held x) (word_bound p))))
    where
      closes_same : (o : Option ℕ) → erase_tx {S = S} {X = X} (closes b o) ≡ closes b o
      closes_same None = refl
      closes_same (Some y) = refl

  tx_erased : (answer : Clash → Choice) (z : Tx (S × X)) → l.tx ≡ z → Erased (turn_in C p answer t m l z)
      (turn_in a p answer t (erase m) (erase_local l) (erase_tx z))
  tx_erased answer NoTx i = out_erased (a.next l.state.0) i refl
  tx_erased answer (OpenTx b k ss) i = in_erased b k ss answer (a.next l.state.0)
  tx_erased answer (GivingUp b k ss) i = back_erased b k ss (least l.held (word_bound p))
  tx_erased answer (Closing b) i = go_erased b (least l.held (word_bound p))

module _ {S X : Type 0} (x0 : X) (h : X → Event → Reply → X) (a : Thread S) (p : MemoryLayout) where
  of_erased : (answer : Clash → Choice) (t : ℕ) (m : Machine (S × X)) (o : Option (Local (S × X)))
      → erase (turn_of (with_more x0 h a) p answer t m o).machine ≡ (turn_of a p answer t (erase m) (erase_opt o)).machine
  of_erased answer t m None = refl
  of_erased answer t m (Some l) = either x0 h a p t m l l.ended _ _ _ _ refl (tx_erased x0 h a p t m l answer l.tx refl)

  at_erased : (answer : Clash → Choice) (t : ℕ) (m : Machine (S × X)) (o : Option End)
      → erase (turn_at (with_more x0 h a) p answer t m o).machine ≡ (turn_at a p answer t (erase m) o).machine
  at_erased answer t m None = of_erased answer t m (m.threads t)
  at_erased answer t m (Some e) = refl

  pub turns_erased : (qs : List Slot) (m : Machine (S × X)) → erase (turns (with_more x0 h a) p qs m) ≡ turns a p qs (erase m)
  turns_erased [] m = refl
  turns_erased (q ∷ qs) m = turns_erased qs (turn (with_more x0 h a) p q.answer q.thread m).machine ∙ ap (turns a p qs) (at_erased q.answer q.thread m m.end)

  pub first_erased : (memory : ℕ → ℕ) (input : List ℕ) (main : S) → erase (first_machine memory input (main, x0)) ≡ first_machine memory input main
  first_erased memory input main = threads_are (first_machine memory input main) (λ u. erase_opt (first_thread (main, x0) u)) (fun_ext first_same)
    where
      first_same : (u : ℕ) → erase_opt (first_thread {S = S × X} (main, x0) u) ≡ first_thread main u
      first_same zero = refl
      first_same (suc u) = refl
