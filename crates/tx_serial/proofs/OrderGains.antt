-- The order gains a thread exactly at the turns that `adds` names.
use Rattle.std.proofs.Common.{ℕ, ℤ, pos, ◌≡◌, Bool, true, false, cond, refl, ap, sym, ◌∙◌, subst, List, [], ◌∷◌, Option, Some, None}
use Rattle.std.specs.Prelude.{nat_lt, not, ◌&&◌, ◌||◌, is_some}
use Rattle.choosers.specs.declared.Clash.{Clash}
use Rattle.choosers.specs.declared.Choice.{Choice}
use Rattle.choosers.specs.declared.Choice.TheVariants.{Wait, Yield}
use Rattle.tx_events.specs.declared.BlockKind.{BlockKind}
use Rattle.tx_events.specs.declared.BlockKind.TheVariants.{NoExcept, Commit, Cancel}
use Rattle.tx_events.specs.declared.End.TheVariants.{Trapped}
use Rattle.tx_events.specs.declared.Event.{Event}
use Rattle.tx_events.specs.declared.Trap.TheVariants.{BadAddress, TooManyThreads}
use Rattle.tx_events.specs.declared.TurnKind.TheVariants.{JoinWait}
use Rattle.tx_events.specs.declared.Event.TheVariants.{
  Silent,
  Load,
  Store,
  Out,
  Inp,
  Spawn,
  Join,
  BeginAtomic,
  EndAtomic,
  Raise,
  BeginSync,
  EndSync,
  Done,
  Stop,
}
use Rattle.tx_events.specs.declared.Reply.TheVariants.{Nothing, Id}
use Rattle.tx_events.specs.Thread.{Thread}
use Rattle.tx_events.specs.Memory.{update, MemoryLayout, can_access, word_of, word_bound}
use Rattle.tx_events.specs.World.{target}
use Rattle.tx_serial.specs.Machine.{Machine, Local, Tx, NoTx, OpenTx, GivingUp, Closing, Save, is_noted, least, blocker, lock_owner, busy, clash_of}
use Rattle.tx_serial.specs.Turn.{
  Turned,
  ran,
  order_gains,
  steps,
  stays,
  halts,
  spawns,
  number_of,
  clashes,
  load_in,
  store_in,
  load_out,
  store_out,
  joins,
  begins,
  sync_in,
  sync_idle,
  closes,
  outermost,
  commits,
  cancels_by,
  cancels,
  raises,
  in_does,
  out_does,
  lets_go,
  gives_back,
  turn_in,
  turn,
}
use Rattle.tx_serial.specs.Kinds.{is_ran, GoesOn}
use Rattle.tx_serial.specs.Run.{is_open}
use Rattle.tx_serial.specs.Order.{enters_order, open_in, adds, order_after}
use Rattle.tx_events.proofs.BlockRuns.{update_same}
use Rattle.tx_serial.proofs.KindConditions.{turn_is}

module _ {S : Type 0} (a : Thread S) (p : MemoryLayout) (t : ℕ) (m : Machine S) (l : Local S) (goes : m.end ≡ None) where
  -- outside a transaction, where the order gains it or not
  abbrev Outer : Bool → Turned S → Type 0
  Outer b r = r.machine.order ≡ order_after (is_ran r.kind && b) t m.order

  either : (b c : Bool) (x y : Turned S) → Outer b x → Outer b y → Outer b (cond c x y)
  either b true x y f g = f
  either b false x y f g = g

  load_out_grows : (addr size : ℕ) (o : Option ℕ) → Outer true (load_out a t m l addr size o)
  load_out_grows addr size (Some u) = refl
  load_out_grows addr size None = refl

  store_out_grows : (addr size value : ℕ) (o : Option ℕ) → Outer true (store_out a t m l addr size value o)
  store_out_grows addr size value (Some u) = refl
  store_out_grows addr size value None = refl

  begins_grows : (o : Option ℕ) → Outer false (begins t m l (a.after l.state Nothing) o)
  begins_grows (Some u) = refl
  begins_grows None = refl

  idle_grows : (o : Option ℕ) → Outer true (sync_idle t m (record l { state = a.after l.state Nothing }) o)
  idle_grows (Some u) = refl
  idle_grows None = refl

  sync_grows : (o : Option ℕ) → Outer true (sync_in t m (record l { state = a.after l.state Nothing }) o)
  sync_grows (Some u) = refl
  sync_grows None = idle_grows (busy t m)

  joins_grows : (id : ℤ) (o : Option (Local S)) → Outer true (joins t id m (record l { state = a.after l.state Nothing }) o)
  joins_grows id None = refl
  joins_grows id (Some u) = either true u.ended (ran (order_gains t (steps t m (record l { state = a.after l.state Nothing }))))
      (stays (JoinWait (number_of id)) m) refl refl

  out_grows : (e : Event) → Outer (enters_order e) (out_does a p t m l e)
  out_grows Silent = refl
  out_grows (Load addr size vol) = either true (can_access p addr size) (load_out a t m l addr size (blocker t false (word_of addr) m))
      (halts t m (Trapped BadAddress)) (load_out_grows addr size (blocker t false (word_of addr) m)) refl
  out_grows (Store addr size value vol) = either true (can_access p addr size) (store_out a t m l addr size value (blocker t true (word_of addr) m))
      (halts t m (Trapped BadAddress)) (store_out_grows addr size value (blocker t true (word_of addr) m)) refl
  out_grows (BeginAtomic kind) = begins_grows (lock_owner t m.lock.holder)
  out_grows EndAtomic = refl
  out_grows (Raise kind can) = refl
  out_grows BeginSync = sync_grows (lock_owner t m.lock.holder)
  out_grows EndSync = refl
  out_grows (Spawn f x) = either true (nat_lt m.started p.limit)
      (ran (spawns t m (record l { state = a.after l.state (Id (pos m.started)) }) (a.child l.state m.started f x)))
      (halts t m (Trapped TooManyThreads)) refl refl
  out_grows (Join id) = joins_grows id (target t id m.threads)
  out_grows (Out c) = refl
  out_grows Inp = refl
  out_grows Done = refl
  out_grows (Stop e) = refl

  -- in an open transaction
  abbrev In : Turned S → Type 0
  In r = r.machine.order ≡ order_after (is_ran r.kind && (is_some r.machine.end || not (open_in (r.machine.threads t)))) t m.order

  either_in : (c : Bool) (x y : Turned S) → In x → In y → In (cond c x y)
  either_in true x y f g = f
  either_in false x y f g = g

  -- the thread goes on in its transaction
  on : (l' : Local S) → is_open l'.tx ≡ true → m.order ≡ order_after (is_some m.end || not (open_in (update m.threads t (Some l') t))) t m.order
  on l' e = sym
      (ap (λ b. order_after b t m.order)
      (ap (λ o. is_some o || not (open_in (update m.threads t (Some l') t))) goes
      ∙ (ap (λ o. not (open_in o)) (update_same m.threads t (Some l')) ∙ ap not e)))

  closed : (b : ℕ) (o : Option ℕ) → is_open {S = S} (closes b o) ≡ false
  closed b None = refl
  closed b (Some x) = refl

  outermost_grows : (s : S) (b : ℕ) → In (outermost p t m l s b)
  outermost_grows s b =
      let l' : Local S = record l { state = s; tx = closes b (least l.held (word_bound p)) } in
      sym (ap (λ c. order_after c t m.order)
      (ap (λ o. is_some o || not (open_in (update m.threads t (Some l') t))) goes
      ∙ (ap (λ o. not (open_in o)) (update_same m.threads t (Some l')) ∙ ap not (closed b (least l.held (word_bound p))))))

  module _ (b : ℕ) (kk : S) (ss : List Save) where
    clash_grows : (c : Choice) (x u : ℕ) → In (clashes p c t m l b kk ss x u)
    clash_grows Wait x u = refl
    clash_grows Yield x u = refl

    load_in_grows : (answer : Clash → Choice) (addr size : ℕ) (o : Option ℕ) → In (load_in a p answer t m l b kk ss addr size o)
    load_in_grows answer addr size (Some u) = clash_grows (answer (clash_of t false (word_of addr) m b u)) (word_of addr) u
    load_in_grows answer addr size None = on _ refl

    store_in_grows : (answer : Clash → Choice) (addr size value : ℕ) (o : Option ℕ) → In (store_in a p answer t m l b kk ss addr size value o)
    store_in_grows answer addr size value (Some u) = clash_grows (answer (clash_of t true (word_of addr) m b u)) (word_of addr) u
    store_in_grows answer addr size value None = on _ refl

    commits_grows : (s : S) (ts : List Save) → In (commits p t m l s b kk ts)
    commits_grows s [] = refl
    commits_grows s (n ∷ []) = outermost_grows s b
    commits_grows s (n ∷ o ∷ ts) = on _ refl

    cancels_grows : (s : S) (n : Save) (ts : List Save) (o : Option ℕ) → In (cancels_by p t m l s b kk n ts o)
    cancels_grows s n ts (Some x) = refl
    cancels_grows s n [] None = outermost_grows s b
    cancels_grows s n (o ∷ ts) None = on _ refl

    saves_grow : (s : S) (ts : List Save) → In (cancels p t m l s b kk ts)
    saves_grow s [] = refl
    saves_grow s (n ∷ ts) = cancels_grows s n ts (least (is_noted n) (word_bound p))

    raises_grow : (s : S) (kind : BlockKind) (can : Bool) → In (raises p t m l s b kk ss kind can)
    raises_grow s NoExcept can = refl
    raises_grow s Commit can = commits_grows s ss
    raises_grow s Cancel true = saves_grow s ss
    raises_grow s Cancel false = refl

    in_grows : (answer : Clash → Choice) (e : Event) → In (in_does a p answer t m l b kk ss e)
    in_grows answer Silent = on _ refl
    in_grows answer (Load addr size vol) = either_in (can_access p addr size) (load_in a p answer t m l b kk ss addr size (blocker t false (word_of addr) m))
        (halts t m (Trapped BadAddress)) (load_in_grows answer addr size (blocker t false (word_of addr) m)) refl
    in_grows answer (Store addr size value vol) = either_in (can_access p addr size)
        (store_in a p answer t m l b kk ss addr size value (blocker t true (word_of addr) m)) (halts t m (Trapped BadAddress))
        (store_in_grows answer addr size value (blocker t true (word_of addr) m)) refl
    in_grows answer (BeginAtomic kind) = on _ refl
    in_grows answer EndAtomic = commits_grows (a.after l.state Nothing) ss
    in_grows answer (Raise kind can) = raises_grow (a.after l.state Nothing) kind can
    in_grows answer BeginSync = on _ refl
    in_grows answer EndSync = on _ refl
    in_grows answer (Stop e) = refl
    in_grows answer (Spawn f x) = refl
    in_grows answer (Join id) = refl
    in_grows answer (Out c) = refl
    in_grows answer Inp = refl
    in_grows answer Done = refl

  back_same : (b : ℕ) (kk : S) (ss : List Save) (o : Option ℕ) → (gives_back p t m l b kk ss o).machine.order ≡ m.order
  back_same b kk ss None = refl
  back_same b kk ss (Some x) = refl

  go_same : (b : ℕ) (o : Option ℕ) → (lets_go p t m l b o).machine.order ≡ m.order
  go_same b None = refl
  go_same b (Some x) = refl

  tx_grows : (answer : Clash → Choice) (tx : Tx S) → (turn_in a p answer t m l tx).machine.order
      ≡ order_after (adds a t l tx (turn_in a p answer t m l tx)) t m.order
  tx_grows answer NoTx = out_grows (a.next l.state)
  tx_grows answer (OpenTx b kk ss) = in_grows b kk ss answer (a.next l.state)
  tx_grows answer (GivingUp b kk ss) = back_same b kk ss (least l.held (word_bound p))
  tx_grows answer (Closing b) = go_same b (least l.held (word_bound p))

module _ {S : Type 0} (a : Thread S) (p : MemoryLayout) (answer : Clash → Choice) (t : ℕ) (m : Machine S) (l : Local S) (goes : GoesOn t m l) where
  pub order_grows : (turn a p answer t m).machine.order ≡ order_after (adds a t l l.tx (turn a p answer t m)) t m.order
  order_grows = subst (λ r. r.machine.order ≡ order_after (adds a t l l.tx r) t m.order) (sym (turn_is a p answer t m l goes))
      (tx_grows a p t m l goes.going answer l.tx)
