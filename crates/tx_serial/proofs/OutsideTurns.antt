-- The turns of a thread that has no transaction.
use Rattle.std.proofs.Common.{
  ℕ,
  ℤ,
  pos,
  negsuc,
  ◌≡◌,
  ◌==◌,
  ◌+◌,
  Bool,
  true,
  false,
  cond,
  refl,
  ap,
  sym,
  ◌∙◌,
  subst,
  List,
  [],
  ◌∷◌,
  ◌++◌,
  Option,
  Some,
  None,
  arith,
}
use Rattle.std.specs.Prelude.{◌&&◌, ◌||◌, nat_lt}
use Rattle.std.proofs.lemmas.Bool.{eqb-true, eqb-false, true≢false, false≢true, eqb-true}
use Rattle.tx_events.specs.declared.End.{End}
use Rattle.tx_events.specs.declared.End.TheVariants.{Trapped}
use Rattle.tx_events.specs.declared.Trap.TheVariants.{BadAddress, TooManyThreads, BadJoin}
use Rattle.tx_events.specs.declared.BlockKind.{BlockKind}
use Rattle.tx_events.specs.declared.Event.{Event}
use Rattle.tx_events.specs.declared.Event.TheVariants.{
  Silent,
  Load,
  Store,
  Out,
  Inp,
  Spawn,
  Join,
  BeginAtomic,
  EndAtomic,
  Raise,
  BeginSync,
  EndSync,
  Done,
  Stop,
}
use Rattle.tx_events.specs.declared.Reply.TheVariants.{Nothing, Loaded, Byte, Id}
use Rattle.tx_events.specs.Thread.{Thread}
use Rattle.tx_events.specs.Memory.{update, MemoryLayout, can_access, word_of, read_at, merge}
use Rattle.tx_events.specs.World.{
  Alive,
  alive,
  World,
  Lock,
  lock_free,
  lock_in,
  lock_out,
  holder_free,
  EventStep,
  Joins,
  SilentSteps,
  none,
  one_more,
  goes,
  ends,
  target,
  byte_of,
  input_after,
}
use Rattle.tx_serial.specs.Machine.{Machine, Local, NoTx, OpenTx, no_save, lock_owner, held_by, wrote_by, is_live, live_in, blocker, busy, no_waits}
use Rattle.tx_serial.specs.Turn.{halts, steps, order_gains, ran, waited, bare, load_out, store_out, joins, begins, sync_in, sync_idle, out_does}
use Rattle.tx_serial.specs.Shows.{ShowsTx, ShowsLocal, ShowsThread}
use Rattle.tx_serial.proofs.WorldAgreement.{undoes, Going, Agreed}
use Rattle.tx_events.proofs.BlockRuns.{update_same, update_elsewhere}
use Rattle.tx_serial.proofs.UntouchedThreads.{at_update, changed}
use Rattle.tx_serial.proofs.TurnContext.{
  not_true,
  Here,
  Known,
  everyone,
  unwritten,
  own_mine,
  own_theirs,
  unheld,
  still_alone,
  unheld_by,
  not_kept_off,
  not_busy,
  out_step,
  fresh_block,
  quiet,
  said,
  halted,
  either,
}

module _ {S : Type 0} (a : Thread S) (p : MemoryLayout) where
  module _ (m : Machine S) (w : World S) (t : ℕ) (l : Local S) (k : Here a p m w t l) (tx : l.tx ≡ NoTx)
      (f : SilentSteps a k.s.state l.state × ((x : ℕ) → l.held x ≡ false)) where
    -- the thread stands where the world's thread stands
    out_local : (memory outside : ℕ → ℕ) (s' : S) (e : Bool) → ShowsLocal a p memory outside (record l { state = s'; ended = e })
        (record { state = s'; ended = e })
    out_local memory outside s' e = record {
      ended = refl;
      holds = k.live.holds;
      bounded = k.live.bounded;
      tx = subst (λ z. ShowsTx a p memory outside s' (record l { state = s'; ended = e }) z) (sym tx) (none, f.1);
    }

    own_free : (x : ℕ) → l.wrote x ≡ false
    own_free x = unheld a p m w t l k x (f.1 x)

    undoes_none : (x : ℕ) → undoes (Some l) x ≡ false
    undoes_none x = ap (λ z. is_live z && l.wrote x) tx

    -- both go on, and memory is as it was
    pub plain : (v : World S) (lock' : Lock) (s' : S) (e : Bool) → v.started ≡ w.started → v.lock ≡ lock'
        → v.threads ≡ update w.threads t (Some (record { state = s'; ended = e })) → v.memory ≡ w.memory
        → ((o u : ℕ) → lock'.holder ≡ Some o → (u == o) ≡ false → live_in (update m.threads t (Some (record l { state = s'; ended = e })) u) ≡ false)
        → Going a p m.memory (update m.threads t (Some (record l { state = s'; ended = e }))) m.started lock' v
    plain v lock' s' e started lock threads memory alone = changed a p m.memory m.memory m.threads m.started m.lock lock' w v t l
        (record l { state = s'; ended = e }) (record { state = s'; ended = e }) k.g k.is (record {
          started_is = started;
          lock_is = lock;
          there = ap (λ g. g t) threads ∙ update_same w.threads t _;
          elsewhere = λ u d. ap (λ g. g u) threads ∙ update_elsewhere w.threads t _ u d;
          mine = λ u x d h. own_mine a p m w t l k u x d h;
          theirs = λ u x d h. own_theirs a p m w t l k u x d h;
          memory_is = λ u x d h. refl;
          outside_is = λ u x d h. ap (λ g. g x) memory;
          free = λ x h own. ap (λ g. g x) memory ∙ everyone a p m w t l k x h (undoes_none x);
          alone = alone;
          shown = out_local m.memory v.memory s' e;
        })

    same_lock : (s' : S) (e : Bool) → (o u : ℕ) → m.lock.holder ≡ Some o → (u == o) ≡ false
        → live_in (update m.threads t (Some (record l { state = s'; ended = e })) u) ≡ false
    same_lock s' e = still_alone a p m w t l k (record l { state = s'; ended = e }) (λ i. i)

    -- a store
    pub stored : (v : World S) (s' : S) (x c : ℕ) → v.started ≡ w.started → v.lock ≡ w.lock → v.threads ≡ update w.threads t (alive s')
        → v.memory ≡ update w.memory x c
        → ((u : ℕ) → (u == t) ≡ false → held_by (m.threads u) x ≡ false)
        → Going a p (update m.memory x c) (update m.threads t (Some (record l { state = s'; ended = false }))) m.started m.lock v
    stored v s' x c started lock threads memory free = changed a p m.memory (update m.memory x c) m.threads m.started m.lock m.lock w v t l
        (record l { state = s'; ended = false }) (record { state = s'; ended = false }) k.g k.is (record {
          started_is = started;
          lock_is = lock ∙ k.g.lock_is;
          there = ap (λ g. g t) threads ∙ update_same w.threads t _;
          elsewhere = λ u d. ap (λ g. g u) threads ∙ update_elsewhere w.threads t _ u d;
          mine = λ u y d h. own_mine a p m w t l k u y d h;
          theirs = λ u y d h. own_theirs a p m w t l k u y d h;
          memory_is = λ u y d h. update_elsewhere m.memory x c y (not_there u y d h);
          outside_is = λ u y d h. ap (λ g. g y) memory ∙ update_elsewhere w.memory x c y (not_there u y d h);
          free = λ y h own. ap (λ g. g y) memory ∙ ap (λ q. cond (y == x) c q) (everyone a p m w t l k y h (undoes_none y));
          alone = same_lock s' false;
          shown = out_local (update m.memory x c) v.memory s' false;
        }) where
          not_there : (u y : ℕ) → (u == t) ≡ false → held_by (m.threads u) y ≡ true → (y == x) ≡ false
          not_there u y d h = not_true (y == x) (λ e. true≢false (sym h ∙ (ap (held_by (m.threads u)) (eqb-true y x e) ∙ free u d)))

  module _ (start : World S) (t : ℕ) (m : Machine S) (l : Local S) (k : Known a p start t m l) (tx : l.tx ≡ NoTx)
      (f : SilentSteps a k.here.s.state l.state × ((x : ℕ) → l.held x ≡ false)) where
    -- both go on by an event that leaves memory
    tells : (e : Event) (s' : S) (b : Bool) (lock' : Lock) (out input : List ℕ) → a.next l.state ≡ e
        → EventStep a p t k.w l.state e
        (record k.w { lock = lock'; out = out; input = input; threads = update k.w.threads t (Some (record { state = s'; ended = b })) })
        → ((o u : ℕ) → lock'.holder ≡ Some o → (u == o) ≡ false → live_in (update m.threads t (Some (record l { state = s'; ended = b })) u) ≡ false)
        → Agreed a p start (record (order_gains t (steps t m (record l { state = s'; ended = b }))) { lock = lock'; out = out; input = input })
    tells e s' b lock' out input is does alone =
        let v : World S = record k.w { lock = lock'; out = out; input = input; threads = update k.w.threads t (Some (record { state = s'; ended = b })) } in
        said a p start t m l k
        (record (order_gains t (steps t m (record l { state = s'; ended = b }))) { lock = lock'; out = out; input = input }) v refl refl refl
        (k.going ∙ sym k.goes)
        (out_step a p m k.w t l k.here v e k.going f.0 is does)
        (λ q. plain m k.w t l k.here tx f v lock' s' b refl refl refl refl alone)

    -- and that leaves the lock, the output and the input
    tells_only : (e : Event) (s' : S) (b : Bool) → a.next l.state ≡ e
        → EventStep a p t k.w l.state e (record k.w { threads = update k.w.threads t (Some (record { state = s'; ended = b })) })
        → Agreed a p start (order_gains t (steps t m (record l { state = s'; ended = b })))
    tells_only e s' b is does =
        let v : World S = record k.w { threads = update k.w.threads t (Some (record { state = s'; ended = b })) } in
        said a p start t m l k (order_gains t (steps t m (record l { state = s'; ended = b }))) v refl k.out k.input (k.going ∙ sym k.goes)
        (out_step a p m k.w t l k.here v e k.going f.0 is does)
        (λ q. plain m k.w t l k.here tx f v m.lock s' b refl k.here.g.lock_is refl refl (same_lock m k.w t l k.here tx f s' b))

    stops : (e : Event) (end : End) → a.next l.state ≡ e → EventStep a p t k.w l.state e (ends k.w end) → Agreed a p start (halts t m end).machine
    stops e end is does = halted a p start t m l k end (out_step a p m k.w t l k.here (ends k.w end) e k.going f.0 is does)

    -- nothing but the waits changes
    waits_kept : (x u : ℕ) → Agreed a p start (waited t m x u).machine
    waits_kept x u = quiet a p start t m l k (waited t m x u).machine refl refl refl refl k.here.g

    as_is : Agreed a p start m
    as_is = quiet a p start t m l k m refl refl refl refl k.here.g

    up_is : l.ended ≡ false
    up_is = sym k.here.live.ended ∙ k.here.up

    -- the thread had not ended
    with_ended : (s' : S) (P : Local S → Type 0) → P (record l { state = s'; ended = false }) → P (record l { state = s' })
    with_ended s' P h = subst (λ b. P (record l { state = s'; ended = b })) (sym up_is) h

    silent_kept : a.next l.state ≡ Silent → Agreed a p start (out_does a p t m l Silent).machine
    silent_kept is =
        let s' = a.after l.state Nothing in
        let l' : Local S = record l { state = s' } in
        let g = k.here.g in
        quiet a p start t m l k (steps t m l') refl refl refl refl
        (changed a p m.memory m.memory m.threads m.started m.lock m.lock k.w k.w t l l' k.here.s g k.here.is (record {
          started_is = refl;
          lock_is = g.lock_is;
          there = k.here.was;
          elsewhere = λ u d. refl;
          mine = λ u x d h. own_mine a p m k.w t l k.here u x d h;
          theirs = λ u x d h. own_theirs a p m k.w t l k.here u x d h;
          memory_is = λ u x d h. refl;
          outside_is = λ u x d h. refl;
          free = λ x h own. everyone a p m k.w t l k.here x h own;
          alone = still_alone a p m k.w t l k.here l' (λ i. i);
          shown = record {
            ended = k.here.live.ended;
            holds = k.here.live.holds;
            bounded = k.here.live.bounded;
            tx = subst (λ z. ShowsTx a p m.memory k.w.memory k.here.s.state l' z) (sym tx) (one_more f.0 is, f.1);
          };
        }))

    same_word : (x : ℕ) → ((u : ℕ) → (u == t) ≡ false → wrote_by (m.threads u) x ≡ false) → k.w.memory x ≡ m.memory x
    same_word x h = unwritten a p m k.w t l k.here x h (own_free m k.w t l k.here tx f x)

    load_kept : (addr size : ℕ) (vol : Bool) → a.next l.state ≡ Load addr size vol → can_access p addr size ≡ true → (o : Option ℕ)
        → blocker t false (word_of addr) m ≡ o → Agreed a p start (load_out a t m l addr size o).machine
    load_kept addr size vol is ok (Some u) e = waits_kept (word_of addr) u
    load_kept addr size vol is ok None e =
        let s' = a.after l.state (Loaded (read_at addr size (m.memory (word_of addr)))) in
        let value = same_word (word_of addr) (not_kept_off a p m k.w t l k.here false (word_of addr) e) in
        with_ended s' (λ z. Agreed a p start (order_gains t (steps t m z))) (tells_only (Load addr size vol) s' false is
        (ap (λ v. goes t k.w (a.after l.state (Loaded (read_at addr size v)))) (sym value)
        ∙ ap (λ b. cond b (goes t k.w (a.after l.state (Loaded (read_at addr size (k.w.memory (word_of addr)))))) (ends k.w (Trapped BadAddress)))
        (sym ok)))

    store_kept : (addr size value : ℕ) (vol : Bool) → a.next l.state ≡ Store addr size value vol → can_access p addr size ≡ true → (o : Option ℕ)
        → blocker t true (word_of addr) m ≡ o → Agreed a p start (store_out a t m l addr size value o).machine
    store_kept addr size value vol is ok (Some u) e = waits_kept (word_of addr) u
    store_kept addr size value vol is ok None e =
        let s' = a.after l.state Nothing in
        let x = word_of addr in
        let free = not_kept_off a p m k.w t l k.here true x e in
        let same = same_word x (λ u d. unheld_by a p m k.w t l k.here u x (free u d)) in
        let c = merge addr size value (m.memory x) in
        let v : World S = record k.w { memory = update k.w.memory x c; threads = update k.w.threads t (alive s') } in
        with_ended s' (λ z. Agreed a p start (record (order_gains t (steps t m z)) { memory = update m.memory x c }))
        (said a p start t m l k
        (record (order_gains t (steps t m (record l { state = s'; ended = false }))) { memory = update m.memory x c }) v refl k.out k.input
        (k.going ∙ sym k.goes)
        (out_step a p m k.w t l k.here v (Store addr size value vol) k.going f.0 is
        (ap (λ y. record k.w { memory = update k.w.memory x (merge addr size value y); threads = update k.w.threads t (alive s') }) (sym same)
        ∙ ap (λ b. cond b (record k.w { memory = update k.w.memory x (merge addr size value (k.w.memory x)); threads = update k.w.threads t (alive s') })
        (ends k.w (Trapped BadAddress))) (sym ok)))
        (λ q. stored m k.w t l k.here tx f v s' x c refl refl refl refl free))

    bad_load : (addr size : ℕ) (vol : Bool) → a.next l.state ≡ Load addr size vol → can_access p addr size ≡ false
        → Agreed a p start (halts t m (Trapped BadAddress)).machine
    bad_load addr size vol is ok = stops (Load addr size vol) (Trapped BadAddress) is
        (ap (λ b. cond b (goes t k.w (a.after l.state (Loaded (read_at addr size (k.w.memory (word_of addr)))))) (ends k.w (Trapped BadAddress))) (sym ok))

    bad_store : (addr size value : ℕ) (vol : Bool) → a.next l.state ≡ Store addr size value vol → can_access p addr size ≡ false
        → Agreed a p start (halts t m (Trapped BadAddress)).machine
    bad_store addr size value vol is ok = stops (Store addr size value vol) (Trapped BadAddress) is
        (ap (λ b. cond b
        (record k.w {
          memory = update k.w.memory (word_of addr) (merge addr size value (k.w.memory (word_of addr)));
          threads = update k.w.threads t (alive (a.after l.state Nothing));
        }) (ends k.w (Trapped BadAddress))) (sym ok))

    -- the lock's holder is t, or there is none
    only_t : (o : Option ℕ) (v : ℕ) → holder_free t o ≡ true → o ≡ Some v → v ≡ t
    only_t None v h e = absurd (cc)
    only_t (Some u) v h e = let q : u ≡ v = cc in sym q ∙ eqb-true u t h

    -- where no other thread holds the lock, it is free for t
    free_of : (o : Option ℕ) → lock_owner t o ≡ None → holder_free t o ≡ true
    free_of None e = refl
    free_of (Some u) e = elim (u == t) as (λ b. cond b None (Some u) ≡ None → b ≡ true) [ true ↦ λ i. refl | false ↦ λ i. absurd (cc) ] e

    begin_kept : (kind : BlockKind) → a.next l.state ≡ BeginAtomic kind → (o : Option ℕ) → lock_owner t m.lock.holder ≡ o
        → Agreed a p start (begins t m l (a.after l.state Nothing) o).machine
    begin_kept kind is (Some u) e = as_is
    begin_kept kind is None found =
        let s' = a.after l.state Nothing in
        let l' : Local S = record l { state = s'; tx = OpenTx m.births s' (no_save ∷ []) } in
        let g = k.here.g in
        let m' : Machine S = record (steps t m l') { births = m.births + 1 } in
        let ok = free_of m.lock.holder found in
        quiet a p start t m l k m' refl refl refl refl
        (changed a p m.memory m.memory m.threads m.started m.lock m.lock k.w k.w t l l' k.here.s g k.here.is (record {
          started_is = refl;
          lock_is = g.lock_is;
          there = k.here.was;
          elsewhere = λ u d. refl;
          mine = λ u x d h. own_mine a p m k.w t l k.here u x d h;
          theirs = λ u x d h. own_theirs a p m k.w t l k.here u x d h;
          memory_is = λ u x d h. refl;
          outside_is = λ u x d h. refl;
          free = λ x h own. everyone a p m k.w t l k.here x h (undoes_none m k.w t l k.here tx f x);
          alone = λ o u h d. at_update a p (λ z. live_in z ≡ false) m.threads t u (Some l')
              (λ e. absurd (eqb-false u o d (eqb-true u t e ∙ sym (only_t m.lock.holder o ok h)))) (λ d'. g.alone o u h d);
          shown = record {
            ended = k.here.live.ended;
            holds = k.here.live.holds;
            bounded = k.here.live.bounded;
            tx = fresh_block a p m k.w t l k.here m.memory k.here.s.state s' l'
                (record { before = l.state; silents = f.0; kind = kind; begins = is; kept_is = refl }) refl f.1 (own_free m k.w t l k.here tx f);
          };
        }))

    sync_kept : a.next l.state ≡ BeginSync → (o : Option ℕ) → busy t m ≡ o → lock_free t m.lock ≡ true
        → Agreed a p start (sync_idle t m (record l { state = a.after l.state Nothing }) o).machine
    sync_kept is (Some u) e ok = as_is
    sync_kept is None e ok =
        let s' = a.after l.state Nothing in
        let same = k.here.g.lock_is in
        with_ended s' (λ z. Agreed a p start (record (order_gains t (steps t m z)) { lock = lock_in t m.lock }))
        (said a p start t m l k (record (order_gains t (steps t m (record l { state = s'; ended = false }))) { lock = lock_in t m.lock })
        (record k.w { lock = lock_in t k.w.lock; threads = update k.w.threads t (alive s') }) refl k.out k.input (k.going ∙ sym k.goes)
        (out_step a p m k.w t l k.here (record k.w { lock = lock_in t k.w.lock; threads = update k.w.threads t (alive s') }) BeginSync k.going f.0 is
        (ap (lock_free t) same ∙ ok, refl))
        (λ q. plain m k.w t l k.here tx f (record k.w { lock = lock_in t k.w.lock; threads = update k.w.threads t (alive s') })
        (lock_in t m.lock) s' false refl (ap (lock_in t) same) refl refl
        (λ o u h d. let i : t ≡ o = cc in
        at_update a p (λ z. live_in z ≡ false) m.threads t u (Some (record l { state = s'; ended = false }))
        (λ e'. absurd (eqb-false u o d (eqb-true u t e' ∙ i))) (λ d'. not_busy a p m k.w t l k.here e u d'))))

    sync_any : a.next l.state ≡ BeginSync → (o : Option ℕ) → lock_owner t m.lock.holder ≡ o
        → Agreed a p start (sync_in t m (record l { state = a.after l.state Nothing }) o).machine
    sync_any is (Some u) e = as_is
    sync_any is None e = sync_kept is (busy t m) refl (free_of m.lock.holder e)

    unsync_kept : a.next l.state ≡ EndSync → Agreed a p start (out_does a p t m l EndSync).machine
    unsync_kept is =
        let s' = a.after l.state Nothing in
        let same = k.here.g.lock_is in
        with_ended s' (λ z. Agreed a p start (record (order_gains t (steps t m z)) { lock = lock_out m.lock }))
        (said a p start t m l k (record (order_gains t (steps t m (record l { state = s'; ended = false }))) { lock = lock_out m.lock })
        (record k.w { lock = lock_out k.w.lock; threads = update k.w.threads t (alive s') }) refl k.out k.input (k.going ∙ sym k.goes)
        (out_step a p m k.w t l k.here (record k.w { lock = lock_out k.w.lock; threads = update k.w.threads t (alive s') }) EndSync k.going f.0 is refl)
        (λ q. plain m k.w t l k.here tx f (record k.w { lock = lock_out k.w.lock; threads = update k.w.threads t (alive s') }) (lock_out m.lock) s' false refl
        (ap lock_out same) refl refl
        (λ o u h d. same_lock m k.w t l k.here tx f s' false o u (held_before (nat_lt 1 m.lock.depth) m.lock.holder o h) d)))
      where
        held_before : (b : Bool) (h : Option ℕ) (o : ℕ) → cond b h None ≡ Some o → h ≡ Some o
        held_before true h o e = e
        held_before false h o e = absurd (cc)

    out_kept : (c : ℕ) → a.next l.state ≡ Out c → Agreed a p start (out_does a p t m l (Out c)).machine
    out_kept c is =
        let s' = a.after l.state Nothing in
        let v : World S = record k.w { out = k.w.out ++ c ∷ []; threads = update k.w.threads t (alive s') } in
        with_ended s' (λ z. Agreed a p start (record (order_gains t (steps t m z)) { out = m.out ++ c ∷ [] }))
        (said a p start t m l k (record (order_gains t (steps t m (record l { state = s'; ended = false }))) { out = m.out ++ c ∷ [] }) v refl
        (ap (λ z. z ++ c ∷ []) k.out) k.input (k.going ∙ sym k.goes)
        (out_step a p m k.w t l k.here v (Out c) k.going f.0 is refl)
        (λ q. plain m k.w t l k.here tx f v m.lock s' false refl k.here.g.lock_is refl refl (same_lock m k.w t l k.here tx f s' false)))

    inp_kept : a.next l.state ≡ Inp → Agreed a p start (out_does a p t m l Inp).machine
    inp_kept is =
        let s' = a.after l.state (Byte (byte_of m.input)) in
        let v : World S = record k.w { input = input_after k.w.input; threads = update k.w.threads t (alive s') } in
        with_ended s' (λ z. Agreed a p start (record (order_gains t (steps t m z)) { input = input_after m.input }))
        (said a p start t m l k (record (order_gains t (steps t m (record l { state = s'; ended = false }))) { input = input_after m.input }) v refl k.out
        (ap input_after k.input) (k.going ∙ sym k.goes)
        (out_step a p m k.w t l k.here v Inp k.going f.0 is
        (ap (λ i. record k.w { input = input_after k.w.input; threads = update k.w.threads t (alive (a.after l.state (Byte (byte_of i)))) })
        (sym k.input)))
        (λ q. plain m k.w t l k.here tx f v m.lock s' false refl k.here.g.lock_is refl refl (same_lock m k.w t l k.here tx f s' false)))

    done_kept : a.next l.state ≡ Done → Agreed a p start (out_does a p t m l Done).machine
    done_kept is = tells_only Done (a.after l.state Nothing) true is refl

    -- the joined thread, in the machine and in the world
    pub joined : (o : Option (Local S)) (q : Option (Alive S)) → ShowsThread a p m.memory k.w.memory o q → (id : ℤ) → a.next l.state ≡ Join id
        → target t id m.threads ≡ o → target t id k.w.threads ≡ q
        → Agreed a p start (joins t id m (record l { state = a.after l.state Nothing }) o).machine
    joined None None h id is i j = stops (Join id) (Trapped BadJoin) is
        (subst (λ z. Joins t k.w (a.after l.state Nothing) z (ends k.w (Trapped BadJoin))) (sym j) refl)
    joined None (Some q) h id is i j = absurd h
    joined (Some o) None h id is i j = absurd h
    joined (Some o) (Some q) h id is i j = either a p start o.ended _ _
        (λ e. with_ended (a.after l.state Nothing) (λ z. Agreed a p start (order_gains t (steps t m z)))
        (tells_only (Join id) (a.after l.state Nothing) false is
        (subst (λ z. Joins t k.w (a.after l.state Nothing) z (goes t k.w (a.after l.state Nothing))) (sym j) (h.ended ∙ e, refl))))
        (λ e. as_is)

    join_kept : (id : ℤ) → a.next l.state ≡ Join id → Agreed a p start (out_does a p t m l (Join id)).machine
    join_kept (pos n) is = by_bad ((n == 0) || (n == t)) refl
      where
        by_bad : (c : Bool) → ((n == 0) || (n == t)) ≡ c → Agreed a p start
            (joins t (pos n) m (record l { state = a.after l.state Nothing }) (cond ((n == 0) || (n == t)) None (m.threads n))).machine
        by_bad true e = subst (λ c. Agreed a p start (joins t (pos n) m (record l { state = a.after l.state Nothing }) (cond c None (m.threads n))).machine)
            (sym e) (joined None None tt (pos n) is (ap (λ c. cond c None (m.threads n)) e) (ap (λ c. cond c None (k.w.threads n)) e))
        by_bad false e = subst (λ c. Agreed a p start (joins t (pos n) m (record l { state = a.after l.state Nothing }) (cond c None (m.threads n))).machine)
            (sym e) (joined (m.threads n) (k.w.threads n) (k.here.g.shown n) (pos n) is (ap (λ c. cond c None (m.threads n)) e)
            (ap (λ c. cond c None (k.w.threads n)) e))
    join_kept (negsuc n) is = joined None None tt (negsuc n) is refl refl

    -- a started thread stands beside the others
    grown : (c : S) → Going a p m.memory (update m.threads m.started (Some (bare c))) (m.started + 1) m.lock
        (record k.w { started = m.started + 1; threads = update k.w.threads m.started (alive c) })
    grown c =
        let g = k.here.g in
        let n = m.started in
        let new : Option (Local S) = Some (bare c) in
        record {
          started_is = refl;
          lock_is = g.lock_is;
          fresh = λ u h. update_elsewhere m.threads n new u (not_true (u == n) (λ e. let i = eqb-true u n e in absurd (omega (arith, i, h))))
              ∙ g.fresh u (omega (arith, h));
          free = λ x h. g.free x (λ u. elim (u == n) as (λ b. (u == n) ≡ b → undoes (m.threads u) x ≡ false) [
            | true ↦ λ e. ap (λ o. undoes o x) (g.fresh u (let i = eqb-true u n e in omega (arith, i)))
            | false ↦ λ d. sym (ap (λ o. undoes o x) (update_elsewhere m.threads n new u d)) ∙ h u
          ] refl);
          apart = λ v u x d h. at_update a p (λ o. wrote_by o x ≡ true → held_by (update m.threads n new u) x ≡ false) m.threads n v new
              (λ e i. absurd (false≢true i))
              (λ e i. at_update a p (λ o. held_by o x ≡ false) m.threads n u new (λ j. refl) (λ j. g.apart v u x d i))
              h;
          alone = λ o u h d. at_update a p (λ z. live_in z ≡ false) m.threads n u new (λ e. refl) (λ e. g.alone o u h d);
          shown = λ u. elim (u == n) as (λ b. ShowsThread a p m.memory k.w.memory (cond b new (m.threads u)) (cond b (alive c) (k.w.threads u))) [
            | true ↦ record { ended = refl; holds = λ x h. absurd (false≢true h); bounded = λ x h. absurd (false≢true h); tx = (none, λ x. refl) }
            | false ↦ g.shown u
          ];
        }

    not_new : (t == m.started) ≡ false
    not_new = not_true (t == m.started)
        (λ e. let i = ap m.threads (eqb-true t m.started e) in let r = k.here.g.fresh m.started (omega arith) in let q = k.here.is in absurd (cc))

    spawn_kept : (h : ℕ) (x : ℤ) → a.next l.state ≡ Spawn h x → Agreed a p start (out_does a p t m l (Spawn h x)).machine
    spawn_kept h x is =
        let n = m.started in
        let c = a.child l.state n h x in
        let s' = a.after l.state (Id (pos n)) in
        let same = k.here.g.started_is in
        let w1 : World S = record k.w { started = n + 1; threads = update k.w.threads n (alive c) } in
        let m1 : Machine S = record m { started = n + 1; threads = update m.threads n (Some (bare c)) } in
        let v : World S = record k.w { started = n + 1; threads = update (update k.w.threads n (alive c)) t (alive s') } in
        let here1 : Here a p m1 w1 t l = record {
          g = grown c;
          is = update_elsewhere m.threads n (Some (bare c)) t not_new ∙ k.here.is;
          s = k.here.s;
          was = update_elsewhere k.w.threads n (alive c) t not_new ∙ k.here.was;
          live = k.here.live;
          up = k.here.up;
        } in
        either a p start (nat_lt n p.limit)
        (ran (record (order_gains t m) {
          started = n + 1;
          threads = update (update m.threads n (Some (bare c))) t (Some (record l { state = s' }));
          waits = update m.waits t no_waits;
        }))
        (halts t m (Trapped TooManyThreads))
        (λ ok. with_ended s'
        (λ z. Agreed a p start
        (record (order_gains t m) {
          started = n + 1;
          threads = update (update m.threads n (Some (bare c))) t (Some z);
          waits = update m.waits t no_waits;
        }))
        (said a p start t m l k
        (record (order_gains t m) {
          started = n + 1;
          threads = update (update m.threads n (Some (bare c))) t
              (Some (record l { state = s'; ended = false }));
          waits = update m.waits t no_waits;
        }) v refl k.out k.input (k.going ∙ sym k.goes)
        (out_step a p m k.w t l k.here v (Spawn h x) k.going f.0 is
        (ap (λ i. record k.w {
          started = i + 1;
          threads = update (update k.w.threads i (alive (a.child l.state i h x))) t
              (alive (a.after l.state (Id (pos i))));
        }) (sym same)
        ∙ ap (λ b. cond b
        (record k.w {
          started = k.w.started + 1;
          threads = update (update k.w.threads k.w.started (alive (a.child l.state k.w.started h x))) t
              (alive (a.after l.state (Id (pos k.w.started))));
        }) (ends k.w (Trapped TooManyThreads))) (sym (ap (λ i. nat_lt i p.limit) same ∙ ok))))
        (λ q. plain m1 w1 t l here1 tx f v m.lock s' false refl k.here.g.lock_is refl refl (same_lock m1 w1 t l here1 tx f s' false))))
        (λ no. stops (Spawn h x) (Trapped TooManyThreads) is
        (ap (λ b. cond b
        (record k.w {
          started = k.w.started + 1;
          threads = update (update k.w.threads k.w.started (alive (a.child l.state k.w.started h x))) t
              (alive (a.after l.state (Id (pos k.w.started))));
        }) (ends k.w (Trapped TooManyThreads))) (sym (ap (λ i. nat_lt i p.limit) same ∙ no))))

    pub out_kept_all : (e : Event) → a.next l.state ≡ e → Agreed a p start (out_does a p t m l e).machine
    out_kept_all Silent is = silent_kept is
    out_kept_all (Load addr size vol) is = either a p start (can_access p addr size) _ _
        (λ ok. load_kept addr size vol is ok (blocker t false (word_of addr) m) refl) (λ no. bad_load addr size vol is no)
    out_kept_all (Store addr size value vol) is = either a p start (can_access p addr size) _ _
        (λ ok. store_kept addr size value vol is ok (blocker t true (word_of addr) m) refl) (λ no. bad_store addr size value vol is no)
    out_kept_all (BeginAtomic kind) is = begin_kept kind is (lock_owner t m.lock.holder) refl
    out_kept_all EndAtomic is = as_is
    out_kept_all (Raise kind can) is = as_is
    out_kept_all BeginSync is = sync_any is (lock_owner t m.lock.holder) refl
    out_kept_all EndSync is = unsync_kept is
    out_kept_all (Spawn h x) is = spawn_kept h x is
    out_kept_all (Join id) is = join_kept id is
    out_kept_all (Out c) is = out_kept c is
    out_kept_all Inp is = inp_kept is
    out_kept_all Done is = done_kept is
    out_kept_all (Stop e) is = stops (Stop e) e is refl
