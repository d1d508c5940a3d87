-- The rows of a thread without a transaction, by what was found.
use Rattle.std.proofs.Common.{ℕ, ℤ, pos, negsuc, ◌≡◌, ◌==◌, Bool, true, false, cond, Option, Some, None, refl, ap, sym, ◌∙◌}
use Rattle.std.specs.Prelude.{◌||◌, nat_lt}
use Rattle.std.proofs.lemmas.Option.{same_Some}
use Rattle.tx_events.specs.declared.BlockKind.{BlockKind}
use Rattle.tx_events.specs.declared.End.TheVariants.{Trapped}
use Rattle.tx_events.specs.declared.Trap.TheVariants.{BadAddress, TooManyThreads, BadJoin}
use Rattle.tx_events.specs.declared.Event.TheVariants.{Load, Store, Join, Spawn, BeginSync, BeginAtomic}
use Rattle.tx_events.specs.declared.Reply.TheVariants.{Nothing, Loaded, Id}
use Rattle.tx_events.specs.declared.TurnKind.TheVariants.{BlockWait, JoinWait}
use Rattle.tx_events.specs.Memory.{MemoryLayout, can_access, word_of, load}
use Rattle.tx_events.specs.Thread.{Thread}
use Rattle.tx_events.specs.World.{target, lock_in}
use Rattle.tx_serial.specs.Machine.{Machine, Local, blocker, lock_owner, busy}
use Rattle.tx_serial.specs.Turn.{ran, stays, order_gains, steps, halts, waited, load_out, store_out, begins, sync_in, sync_idle, spawns, joins, number_of}
use Rattle.tx_serial.specs.Turn.{out_does}

-- what a load of the memory tells

pub loaded_none : (b : Bool) (v : ℕ) (r : Option ℕ) → r ≡ cond b (Some v) None → r ≡ None → b ≡ false
loaded_none true v r e f = absurd (cc)
loaded_none false v r e f = refl

pub loaded_some : (b : Bool) (v x : ℕ) (r : Option ℕ) → r ≡ cond b (Some v) None → r ≡ Some x → (b ≡ true) × (x ≡ v)
loaded_some true v x r e f = (refl, same_Some x v (sym f ∙ e))
loaded_some false v x r e f = absurd (cc)

module _ {S : Type 0} (a : Thread S) (p : MemoryLayout) (t : ℕ) (m : Machine S) (l : Local S) where
  pub load_traps : (addr size : ℕ) (vol : Bool) → can_access p addr size ≡ false → halts t m (Trapped BadAddress) ≡ out_does a p t m l (Load addr size vol)
  load_traps addr size vol e = ap (λ b. cond b (load_out a t m l addr size (blocker t false (word_of addr) m)) (halts t m (Trapped BadAddress))) (sym e)

  load_goes : (addr size : ℕ) (vol : Bool) (o : Option ℕ) → can_access p addr size ≡ true → blocker t false (word_of addr) m ≡ o
      → load_out a t m l addr size o ≡ out_does a p t m l (Load addr size vol)
  load_goes addr size vol o e f =
      ap (load_out a t m l addr size) (sym f) ∙ ap (λ b. cond b (load_out a t m l addr size (blocker t false (word_of addr) m))
      (halts t m (Trapped BadAddress))) (sym e)

  pub load_waits : (addr size word u : ℕ) (vol : Bool) → can_access p addr size ≡ true → word ≡ word_of addr → blocker t false word m ≡ Some u
      → waited t m word u ≡ out_does a p t m l (Load addr size vol)
  load_waits addr size word u vol e w f = ap (λ x. waited t m x u) w ∙ load_goes addr size vol (Some u) e (ap (λ x. blocker t false x m) (sym w) ∙ f)

  pub load_done : (addr size word value : ℕ) (vol : Bool) → can_access p addr size ≡ true → word ≡ word_of addr → blocker t false word m ≡ None
      → value ≡ load m.memory addr size
      → ran (order_gains t (steps t m (record l { state = a.after l.state (Loaded value) }))) ≡ out_does a p t m l (Load addr size vol)
  load_done addr size word value vol e w f v =
      ap (λ x. ran (order_gains t (steps t m (record l { state = a.after l.state (Loaded x) })))) v
      ∙ load_goes addr size vol None e (ap (λ x. blocker t false x m) (sym w) ∙ f)

  pub store_traps : (addr size value : ℕ) (vol : Bool) → can_access p addr size ≡ false
      → halts t m (Trapped BadAddress) ≡ out_does a p t m l (Store addr size value vol)
  store_traps addr size value vol e = ap (λ b. cond b (store_out a t m l addr size value (blocker t true (word_of addr) m)) (halts t m (Trapped BadAddress)))
      (sym e)

  pub store_goes : (addr size value : ℕ) (vol : Bool) (o : Option ℕ) → can_access p addr size ≡ true → blocker t true (word_of addr) m ≡ o
      → store_out a t m l addr size value o ≡ out_does a p t m l (Store addr size value vol)
  store_goes addr size value vol o e f =
      ap (store_out a t m l addr size value) (sym f) ∙ ap
      (λ b. cond b (store_out a t m l addr size value (blocker t true (word_of addr) m)) (halts t m (Trapped BadAddress))) (sym e)

  pub store_waits : (addr size value word u : ℕ) (vol : Bool) → can_access p addr size ≡ true → word ≡ word_of addr → blocker t true word m ≡ Some u
      → waited t m word u ≡ out_does a p t m l (Store addr size value vol)
  store_waits addr size value word u vol e w f = ap (λ x. waited t m x u) w
      ∙ store_goes addr size value vol (Some u) e (ap (λ x. blocker t true x m) (sym w) ∙ f)

  pub begin_waits : (kind : BlockKind) (u : ℕ) → Some u ≡ lock_owner t m.lock.holder → stays (BlockWait u) m ≡ out_does a p t m l (BeginAtomic kind)
  begin_waits kind u e = ap (begins t m l (a.after l.state Nothing)) e

  pub begin_done : (kind : BlockKind) → None ≡ lock_owner t m.lock.holder → begins t m l (a.after l.state Nothing) None ≡ out_does a p t m l (BeginAtomic kind)
  begin_done kind e = ap (begins t m l (a.after l.state Nothing)) e

  abbrev stepped_local : Local S
  stepped_local = record l { state = a.after l.state Nothing }

  pub sync_waits : (u : ℕ) → Some u ≡ lock_owner t m.lock.holder → stays (BlockWait u) m ≡ out_does a p t m l BeginSync
  sync_waits u e = ap (sync_in t m stepped_local) e

  pub sync_busy : (u : ℕ) → None ≡ lock_owner t m.lock.holder → Some u ≡ busy t m → stays (BlockWait u) m ≡ out_does a p t m l BeginSync
  sync_busy u e f = ap (sync_idle t m stepped_local) f ∙ ap (sync_in t m stepped_local) e

  pub sync_done : None ≡ lock_owner t m.lock.holder → None ≡ busy t m
      → ran (record (order_gains t (steps t m stepped_local)) { lock = lock_in t m.lock }) ≡ out_does a p t m l BeginSync
  sync_done e f = ap (sync_idle t m stepped_local) f ∙ ap (sync_in t m stepped_local) e

  pub join_bad : (id : ℤ) → target t id m.threads ≡ None → halts t m (Trapped BadJoin) ≡ out_does a p t m l (Join id)
  join_bad id e = ap (joins t id m stepped_local) (sym e)

  pub join_done : (id : ℤ) (u : Local S) → target t id m.threads ≡ Some u → u.ended ≡ true
      → ran (order_gains t (steps t m stepped_local)) ≡ out_does a p t m l (Join id)
  join_done id u e f = ap (λ b. cond b (ran (order_gains t (steps t m stepped_local))) (stays (JoinWait (number_of id)) m)) (sym f)
      ∙ ap (joins t id m stepped_local) (sym e)

  pub join_waits : (id : ℤ) (n : ℕ) (u : Local S) → id ≡ pos n → target t id m.threads ≡ Some u → u.ended ≡ false
      → stays (JoinWait n) m ≡ out_does a p t m l (Join id)
  join_waits id n u i e f =
      ap (λ z. stays (JoinWait (number_of z)) m) (sym i)
      ∙ (ap (λ b. cond b (ran (order_gains t (steps t m stepped_local))) (stays (JoinWait (number_of id)) m)) (sym f) ∙ ap (joins t id m stepped_local) (sym e))

pub spawn_full : {S : Type 0} (a : Thread S) (p : MemoryLayout) (t : ℕ) (m : Machine S) (l : Local S) (f : ℕ) (x : ℤ) → nat_lt m.started p.limit ≡ false
    → halts t m (Trapped TooManyThreads) ≡ out_does a p t m l (Spawn f x)
spawn_full a p t m l f x e = ap (λ b. cond b (ran (spawns t m (record l { state = a.after l.state (Id (pos m.started)) }) (a.child l.state m.started f x)))
    (halts t m (Trapped TooManyThreads))) (sym e)

pub no_target : {X : Type 0} (t : ℕ) (id : ℤ) (threads : ℕ → Option X) → ((n : ℕ) → id ≡ pos n → (((n == 0) || (n == t)) ≡ false) → threads n ≡ None)
    → target t id threads ≡ None
no_target {X} t (negsuc n) threads h = refl
no_target {X} t (pos n) threads h = elim ((n == 0) || (n == t)) as (λ b. ((n == 0) || (n == t)) ≡ b → cond b None (threads n) ≡ None) [
  | true ↦ λ e. refl
  | false ↦ λ e. h n refl e
] refl

pub spawn_done : {S : Type 0} (a : Thread S) (p : MemoryLayout) (t : ℕ) (m : Machine S) (l : Local S) (f n : ℕ) (x i : ℤ) (child : S)
    → nat_lt m.started p.limit ≡ true → i ≡ pos m.started → child ≡ a.child l.state m.started f x
    → ran (spawns t m (record l { state = a.after l.state (Id i) }) child) ≡ out_does a p t m l (Spawn f x)
spawn_done a p t m l f n x i child e j k =
    ap (λ z. ran (spawns t m (record l { state = a.after l.state (Id z) }) child)) j
    ∙ (ap (λ z. ran (spawns t m (record l { state = a.after l.state (Id (pos m.started)) }) z)) k
    ∙ ap (λ b. cond b (ran (spawns t m (record l { state = a.after l.state (Id (pos m.started)) }) (a.child l.state m.started f x)))
    (halts t m (Trapped TooManyThreads))) (sym e))
