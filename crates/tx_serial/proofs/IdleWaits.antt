-- A thread whose next event is no access has no waits.
use Rattle.std.proofs.Common.{
  ℕ,
  ℤ,
  pos,
  zero,
  suc,
  ◌≡◌,
  ◌==◌,
  ◌≤◌,
  Bool,
  true,
  false,
  cond,
  refl,
  ap,
  sym,
  ◌∙◌,
  subst,
  List,
  [],
  ◌∷◌,
  Option,
  Some,
  None,
  arith,
}
use Rattle.std.specs.Prelude.{nat_lt}
use Rattle.std.proofs.lemmas.Bool.{eqb-true, true≢false}
use Rattle.choosers.specs.declared.Clash.{Clash}
use Rattle.choosers.specs.declared.Choice.{Choice}
use Rattle.choosers.specs.declared.Choice.TheVariants.{Wait, Yield}
use Rattle.tx_events.specs.declared.TheConstants.{THREAD_LIMIT}
use Rattle.tx_events.specs.declared.End.{End}
use Rattle.tx_events.specs.declared.BlockKind.{BlockKind}
use Rattle.tx_events.specs.declared.BlockKind.TheVariants.{NoExcept, Commit, Cancel}
use Rattle.tx_events.specs.declared.Event.{Event}
use Rattle.tx_events.specs.declared.Event.TheVariants.{
  Silent,
  Load,
  Store,
  Out,
  Inp,
  Spawn,
  Join,
  BeginAtomic,
  EndAtomic,
  Raise,
  BeginSync,
  EndSync,
  Done,
  Stop,
}
use Rattle.tx_events.specs.declared.Reply.TheVariants.{Nothing, Id}
use Rattle.tx_events.specs.Thread.{Thread, Lawful}
use Rattle.tx_events.specs.Memory.{update, MemoryLayout, can_access, word_of, word_bound}
use Rattle.tx_events.specs.World.{target}
use Rattle.tx_serial.specs.Machine.{
  Machine,
  Local,
  Tx,
  NoTx,
  OpenTx,
  GivingUp,
  Closing,
  Save,
  Waits,
  no_waits,
  wait_more,
  birth_of,
  is_noted,
  least,
  blocker,
  lock_owner,
  busy,
  clash_of,
}
use Rattle.tx_serial.specs.Turn.{
  Slot,
  Turned,
  bare,
  waited,
  clashes,
  load_in,
  store_in,
  load_out,
  store_out,
  joins,
  begins,
  sync_in,
  sync_idle,
  commits,
  cancels_by,
  cancels,
  raises,
  in_does,
  out_does,
  lets_go,
  gives_back,
  turn_in,
  turn_of,
  turn_at,
  turn,
  turns,
  first_machine,
}
use Rattle.tx_serial.specs.Run.{is_access}
use Rattle.tx_serial.specs.Sound.{Sound}
use Rattle.tx_serial.specs.Laws.{RestsAt, Rests}
use Rattle.tx_serial.proofs.UntouchedThreads.{at_update}
use Rattle.tx_serial.proofs.SoundKept.{turn_sound}

module _ {S : Type 0} (a : Thread S) (p : MemoryLayout) (t : ℕ) (m : Machine S) (l : Local S) (is : m.threads t ≡ Some l) (fresh : m.threads m.started ≡ None)
    (h : Rests a m) where
  abbrev Resting : (ℕ → Option (Local S)) → (ℕ → Waits) → Type 0
  Resting threads waits = (u : ℕ) → RestsAt a (threads u) (waits u)

  abbrev Kept : Turned S → Type 0
  Kept r = Resting r.machine.threads r.machine.waits

  -- the thread goes on, and its waits are over
  on : (l' : Local S) → Resting (update m.threads t (Some l')) (update m.waits t no_waits)
  on l' u = elim (u == t) as (λ b. RestsAt a (cond b (Some l') (m.threads u)) (cond b no_waits (m.waits u))) [ true ↦ λ i. refl | false ↦ h u ]

  -- it waits at an access
  waits_on : (x v : ℕ) → is_access (a.next l.state) ≡ true → Kept (waited t m x v)
  waits_on x v e u = at_update a p (λ w. RestsAt a (m.threads u) w) m.waits t u (wait_more (m.waits t) x (birth_of (m.threads v)))
      (λ i. subst (λ o. RestsAt a o (wait_more (m.waits t) x (birth_of (m.threads v)))) (sym (ap m.threads (eqb-true u t i) ∙ is))
      (λ j. absurd (true≢false (sym e ∙ j))))
      (λ d. h u)

  either : (b : Bool) (x y : Turned S) → Kept x → Kept y → Kept (cond b x y)
  either true x y f g = f
  either false x y f g = g

  -- outside a transaction

  load_rests : (addr size : ℕ) → is_access (a.next l.state) ≡ true → (o : Option ℕ) → Kept (load_out a t m l addr size o)
  load_rests addr size e (Some u) = waits_on (word_of addr) u e
  load_rests addr size e None = on _

  store_rests : (addr size value : ℕ) → is_access (a.next l.state) ≡ true → (o : Option ℕ) → Kept (store_out a t m l addr size value o)
  store_rests addr size value e (Some u) = waits_on (word_of addr) u e
  store_rests addr size value e None = on _

  begin_rests : (o : Option ℕ) → Kept (begins t m l (a.after l.state Nothing) o)
  begin_rests (Some u) = h
  begin_rests None = on _

  idle_rests : (o : Option ℕ) → Kept (sync_idle t m (record l { state = a.after l.state Nothing }) o)
  idle_rests (Some u) = h
  idle_rests None = on _

  sync_rests : (o : Option ℕ) → Kept (sync_in t m (record l { state = a.after l.state Nothing }) o)
  sync_rests (Some u) = h
  sync_rests None = idle_rests (busy t m)

  join_rests : (id : ℤ) (o : Option (Local S)) → Kept (joins t id m (record l { state = a.after l.state Nothing }) o)
  join_rests id None = h
  join_rests id (Some u) = either u.ended _ _ (on _) h

  spawn_rests : (c : S) (l' : Local S) → Resting (update (update m.threads m.started (Some (bare c))) t (Some l')) (update m.waits t no_waits)
  spawn_rests c l' u = elim (u == t) as (λ b. RestsAt a (cond b (Some l') (update m.threads m.started (Some (bare c)) u)) (cond b no_waits (m.waits u))) [
    | true ↦ λ i. refl
    | false ↦ at_update a p (λ o. RestsAt a o (m.waits u)) m.threads m.started u (Some (bare c))
        (λ e j. subst (λ o. RestsAt a o (m.waits u)) (ap m.threads (eqb-true u m.started e) ∙ fresh) (h u))
        (λ d. h u)
  ]

  out_rests : (e : Event) → a.next l.state ≡ e → Kept (out_does a p t m l e)
  out_rests Silent i = on _
  out_rests (Load addr size vol) i = either (can_access p addr size) _ _ (load_rests addr size (ap is_access i) (blocker t false (word_of addr) m)) h
  out_rests (Store addr size value vol) i = either (can_access p addr size) _ _
      (store_rests addr size value (ap is_access i) (blocker t true (word_of addr) m)) h
  out_rests (BeginAtomic kind) i = begin_rests (lock_owner t m.lock.holder)
  out_rests EndAtomic i = h
  out_rests (Raise kind can) i = h
  out_rests BeginSync i = sync_rests (lock_owner t m.lock.holder)
  out_rests EndSync i = on _
  out_rests (Spawn f x) i = either (nat_lt m.started p.limit) _ _
      (spawn_rests (a.child l.state m.started f x) (record l { state = a.after l.state (Id (pos m.started)) })) h
  out_rests (Join id) i = join_rests id (target t id m.threads)
  out_rests (Out c) i = on _
  out_rests Inp i = on _
  out_rests Done i = on _
  out_rests (Stop e) i = h

  -- in an open transaction
  module _ (b : ℕ) (kk : S) (ss : List Save) where
    clash_rests : (c : Choice) (x u : ℕ) → is_access (a.next l.state) ≡ true → Kept (clashes p c t m l b kk ss x u)
    clash_rests Wait x u e = waits_on x u e
    clash_rests Yield x u e = on _

    load_in_rests : (answer : Clash → Choice) (addr size : ℕ) → is_access (a.next l.state) ≡ true → (o : Option ℕ)
        → Kept (load_in a p answer t m l b kk ss addr size o)
    load_in_rests answer addr size e (Some u) = clash_rests (answer (clash_of t false (word_of addr) m b u)) (word_of addr) u e
    load_in_rests answer addr size e None = on _

    store_in_rests : (answer : Clash → Choice) (addr size value : ℕ) → is_access (a.next l.state) ≡ true → (o : Option ℕ)
        → Kept (store_in a p answer t m l b kk ss addr size value o)
    store_in_rests answer addr size value e (Some u) = clash_rests (answer (clash_of t true (word_of addr) m b u)) (word_of addr) u e
    store_in_rests answer addr size value e None = on _

    commits_rest : (s : S) (ts : List Save) → Kept (commits p t m l s b kk ts)
    commits_rest s [] = h
    commits_rest s (n ∷ []) = on _
    commits_rest s (n ∷ o ∷ ts) = on _

    cancels_rest : (s : S) (n : Save) (ts : List Save) (o : Option ℕ) → Kept (cancels_by p t m l s b kk n ts o)
    cancels_rest s n ts (Some x) = on _
    cancels_rest s n [] None = on _
    cancels_rest s n (o ∷ ts) None = on _

    saves_rest : (s : S) (ts : List Save) → Kept (cancels p t m l s b kk ts)
    saves_rest s [] = h
    saves_rest s (n ∷ ts) = cancels_rest s n ts (least (is_noted n) (word_bound p))

    raises_rest : (s : S) (kind : BlockKind) (can : Bool) → Kept (raises p t m l s b kk ss kind can)
    raises_rest s NoExcept can = h
    raises_rest s Commit can = commits_rest s ss
    raises_rest s Cancel true = saves_rest s ss
    raises_rest s Cancel false = h

    in_rests : (answer : Clash → Choice) (e : Event) → a.next l.state ≡ e → Kept (in_does a p answer t m l b kk ss e)
    in_rests answer Silent i = on _
    in_rests answer (Load addr size vol) i = either (can_access p addr size) _ _
        (load_in_rests answer addr size (ap is_access i) (blocker t false (word_of addr) m)) h
    in_rests answer (Store addr size value vol) i = either (can_access p addr size) _ _
        (store_in_rests answer addr size value (ap is_access i) (blocker t true (word_of addr) m)) h
    in_rests answer (BeginAtomic kind) i = on _
    in_rests answer EndAtomic i = commits_rest (a.after l.state Nothing) ss
    in_rests answer (Raise kind can) i = raises_rest (a.after l.state Nothing) kind can
    in_rests answer BeginSync i = on _
    in_rests answer EndSync i = on _
    in_rests answer (Stop e) i = h
    in_rests answer (Spawn f x) i = h
    in_rests answer (Join id) i = h
    in_rests answer (Out c) i = h
    in_rests answer Inp i = h
    in_rests answer Done i = h

  back_rests : (b : ℕ) (kk : S) (ss : List Save) (o : Option ℕ) → Kept (gives_back p t m l b kk ss o)
  back_rests b kk ss None = h
  back_rests b kk ss (Some x) = on _

  go_rests : (b : ℕ) (o : Option ℕ) → Kept (lets_go p t m l b o)
  go_rests b None = h
  go_rests b (Some x) = on _

  tx_rests : (answer : Clash → Choice) (tx : Tx S) → Kept (turn_in a p answer t m l tx)
  tx_rests answer NoTx = out_rests (a.next l.state) refl
  tx_rests answer (OpenTx b kk ss) = in_rests b kk ss answer (a.next l.state) refl
  tx_rests answer (GivingUp b kk ss) = back_rests b kk ss (least l.held (word_bound p))
  tx_rests answer (Closing b) = go_rests b (least l.held (word_bound p))

module _ {S : Type 0} (R : S → Type 0) (a : Thread S) (laws : Lawful S R a) (p : MemoryLayout) (small : p.limit ≤ THREAD_LIMIT) where
  by_thread : (answer : Clash → Choice) (t : ℕ) (m : Machine S) → m.threads m.started ≡ None → Rests a m → (o : Option (Local S)) → m.threads t ≡ o
      → Rests a (turn_of a p answer t m o).machine
  by_thread answer t m fresh h None i = h
  by_thread answer t m fresh h (Some l) i = either a p t m l i fresh h l.ended _ _ h (tx_rests a p t m l i fresh h answer l.tx)

  by_end : (answer : Clash → Choice) (t : ℕ) (m : Machine S) → m.threads m.started ≡ None → Rests a m → (o : Option End)
      → Rests a (turn_at a p answer t m o).machine
  by_end answer t m fresh h (Some e) = h
  by_end answer t m fresh h None = by_thread answer t m fresh h (m.threads t) refl

  pub turn_rests : (answer : Clash → Choice) (t : ℕ) (m : Machine S) → Sound R a p m → Rests a m → Rests a (turn a p answer t m).machine
  turn_rests answer t m sound h = by_end answer t m (sound.fresh m.started (omega arith)) h m.end

  pub turns_rest : (qs : List Slot) (m : Machine S) → Sound R a p m → Rests a m → Rests a (turns a p qs m)
  turns_rest [] m sound h = h
  turns_rest (q ∷ qs) m sound h = turns_rest qs (turn a p q.answer q.thread m).machine (turn_sound R a laws p small q.answer q.thread m sound)
      (turn_rests q.answer q.thread m sound h)

  pub start_rests : (memory : ℕ → ℕ) (input : List ℕ) (main : S) → Rests a (first_machine memory input main)
  start_rests memory input main zero = λ i. refl
  start_rests memory input main (suc u) = refl
