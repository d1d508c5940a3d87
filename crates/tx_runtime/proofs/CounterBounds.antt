-- A turn draws at most one birth, and the lock's depth rises by at most one.
use Rattle.std.proofs.Common.{ℕ, ℤ, ◌≡◌, ◌≤◌, ◌+◌, ◌-◌, Bool, true, false, cond, List, [], ◌∷◌, Option, Some, None, ap, arith}
use Rattle.std.specs.Prelude.{nat_lt}
use Rattle.choosers.specs.declared.Clash.{Clash}
use Rattle.choosers.specs.declared.Choice.{Choice}
use Rattle.choosers.specs.declared.Choice.TheVariants.{Wait, Yield}
use Rattle.tx_events.specs.declared.BlockKind.{BlockKind}
use Rattle.tx_events.specs.declared.BlockKind.TheVariants.{NoExcept, Commit, Cancel}
use Rattle.tx_events.specs.declared.End.{End}
use Rattle.tx_events.specs.declared.Event.{Event}
use Rattle.tx_events.specs.declared.Event.TheVariants.{Silent, Load, Store, Out, Inp, Spawn, Join, BeginAtomic, EndAtomic, Raise, BeginSync, EndSync, Done}
use Rattle.tx_events.specs.declared.Event.TheVariants.{Stop}
use Rattle.tx_events.specs.declared.Reply.TheVariants.{Nothing}
use Rattle.tx_events.specs.declared.TurnKind.{TurnKind}
use Rattle.tx_events.specs.Memory.{MemoryLayout, can_access, word_of, word_bound}
use Rattle.tx_events.specs.Thread.{Thread}
use Rattle.tx_events.specs.World.{target}
use Rattle.tx_serial.specs.Machine.{Machine, Local, Save, Tx, NoTx, OpenTx, GivingUp, Closing, blocker, busy, lock_owner, clash_of, least, is_noted}
use Rattle.tx_serial.specs.Turn.{Turned, load_out, store_out, begins, sync_idle, sync_in, joins, out_does, clashes, load_in, store_in, commits, cancels_by}
use Rattle.tx_serial.specs.Turn.{cancels, raises, in_does, lets_go, gives_back, turn_in, turn_of, turn_at, turn}

module _ {S : Type 0} (a : Thread S) (p : MemoryLayout) (t : ℕ) (m : Machine S) where
  abbrev Rises : Turned S → Type 0
  Rises r = (r.machine.births ≤ m.births + 1) × (r.machine.lock.depth ≤ m.lock.depth + 1)

  level : (m.births ≤ m.births + 1) × (m.lock.depth ≤ m.lock.depth + 1)
  level = (omega arith, omega arith)

  either : (b : Bool) (x y : Turned S) → Rises x → Rises y → Rises (cond b x y)
  either true x y f g = f
  either false x y f g = g

  load_out_rises : (l : Local S) (addr size : ℕ) (o : Option ℕ) → Rises (load_out a t m l addr size o)
  load_out_rises l addr size (Some u) = level
  load_out_rises l addr size None = level

  store_out_rises : (l : Local S) (addr size value : ℕ) (o : Option ℕ) → Rises (store_out a t m l addr size value o)
  store_out_rises l addr size value (Some u) = level
  store_out_rises l addr size value None = level

  join_rises : (l : Local S) (id : ℤ) (o : Option (Local S)) → Rises (joins t id m l o)
  join_rises l id None = level
  join_rises l id (Some u) = either u.ended _ _ level level

  idle_rises : (l : Local S) (o : Option ℕ) → Rises (sync_idle t m l o)
  idle_rises l (Some u) = level
  idle_rises l None = (omega arith, omega arith)

  sync_rises : (l : Local S) (o : Option ℕ) → Rises (sync_in t m l o)
  sync_rises l (Some u) = level
  sync_rises l None = idle_rises l (busy t m)

  begin_rises : (l : Local S) (s : S) (o : Option ℕ) → Rises (begins t m l s o)
  begin_rises l s (Some u) = level
  begin_rises l s None = (omega arith, omega arith)

  less : (n : ℕ) → n - 1 ≤ n + 1
  less n = omega arith

  out_rises : (l : Local S) (e : Event) → Rises (out_does a p t m l e)
  out_rises l Silent = level
  out_rises l (Load addr size vol) = either (can_access p addr size) _ _ (load_out_rises l addr size (blocker t false (word_of addr) m)) level
  out_rises l (Store addr size value vol) = either (can_access p addr size) _ _ (store_out_rises l addr size value (blocker t true (word_of addr) m)) level
  out_rises l (BeginAtomic kind) = begin_rises l (a.after l.state Nothing) (lock_owner t m.lock.holder)
  out_rises l EndAtomic = level
  out_rises l (Raise kind can) = level
  out_rises l BeginSync = sync_rises (record l { state = a.after l.state Nothing }) (lock_owner t m.lock.holder)
  out_rises l EndSync = (omega arith, less m.lock.depth)
  out_rises l (Spawn f x) = either (nat_lt m.started p.limit) _ _ level level
  out_rises l (Join id) = join_rises (record l { state = a.after l.state Nothing }) id (target t id m.threads)
  out_rises l (Out byte) = level
  out_rises l Inp = level
  out_rises l Done = level
  out_rises l (Stop e) = level

  clash_rises : (choice : Choice) (l : Local S) (b : ℕ) (k : S) (ss : List Save) (x u : ℕ) → Rises (clashes p choice t m l b k ss x u)
  clash_rises Wait l b k ss x u = level
  clash_rises Yield l b k ss x u = level

  module _ (answer : Clash → Choice) (l : Local S) (b : ℕ) (k : S) (ss : List Save) where
    load_in_rises : (addr size : ℕ) (o : Option ℕ) → Rises (load_in a p answer t m l b k ss addr size o)
    load_in_rises addr size (Some u) = clash_rises (answer (clash_of t false (word_of addr) m b u)) l b k ss (word_of addr) u
    load_in_rises addr size None = level

    store_in_rises : (addr size value : ℕ) (o : Option ℕ) → Rises (store_in a p answer t m l b k ss addr size value o)
    store_in_rises addr size value (Some u) = clash_rises (answer (clash_of t true (word_of addr) m b u)) l b k ss (word_of addr) u
    store_in_rises addr size value None = level

    commits_rises : (s : S) (ts : List Save) → Rises (commits p t m l s b k ts)
    commits_rises s [] = level
    commits_rises s (n ∷ []) = level
    commits_rises s (n ∷ o ∷ ts) = level

    cancels_by_rises : (s : S) (n : Save) (ts : List Save) (o : Option ℕ) → Rises (cancels_by p t m l s b k n ts o)
    cancels_by_rises s n ts (Some x) = level
    cancels_by_rises s n [] None = level
    cancels_by_rises s n (o ∷ ts) None = level

    cancels_rises : (s : S) (ts : List Save) → Rises (cancels p t m l s b k ts)
    cancels_rises s [] = level
    cancels_rises s (n ∷ ts) = cancels_by_rises s n ts (least (is_noted n) (word_bound p))

    raises_rises : (s : S) (kind : BlockKind) (can : Bool) → Rises (raises p t m l s b k ss kind can)
    raises_rises s NoExcept can = level
    raises_rises s Commit can = commits_rises s ss
    raises_rises s Cancel true = cancels_rises s ss
    raises_rises s Cancel false = level

    in_rises : (e : Event) → Rises (in_does a p answer t m l b k ss e)
    in_rises Silent = level
    in_rises (Load addr size vol) = either (can_access p addr size) _ _ (load_in_rises addr size (blocker t false (word_of addr) m)) level
    in_rises (Store addr size value vol) = either (can_access p addr size) _ _ (store_in_rises addr size value (blocker t true (word_of addr) m)) level
    in_rises (BeginAtomic kind) = level
    in_rises EndAtomic = commits_rises (a.after l.state Nothing) ss
    in_rises (Raise kind can) = raises_rises (a.after l.state Nothing) kind can
    in_rises BeginSync = level
    in_rises EndSync = level
    in_rises (Spawn f x) = level
    in_rises (Join id) = level
    in_rises (Out byte) = level
    in_rises Inp = level
    in_rises Done = level
    in_rises (Stop e) = level

    gives_back_rises : (o : Option ℕ) → Rises (gives_back p t m l b k ss o)
    gives_back_rises None = level
    gives_back_rises (Some x) = level

  lets_go_rises : (l : Local S) (b : ℕ) (o : Option ℕ) → Rises (lets_go p t m l b o)
  lets_go_rises l b None = level
  lets_go_rises l b (Some x) = level

  by_tx : (answer : Clash → Choice) (l : Local S) (tx : Tx S) → Rises (turn_in a p answer t m l tx)
  by_tx answer l NoTx = out_rises l (a.next l.state)
  by_tx answer l (OpenTx b k ss) = in_rises answer l b k ss (a.next l.state)
  by_tx answer l (GivingUp b k ss) = gives_back_rises answer l b k ss (least l.held (word_bound p))
  by_tx answer l (Closing b) = lets_go_rises l b (least l.held (word_bound p))

  by_thread : (answer : Clash → Choice) (o : Option (Local S)) → Rises (turn_of a p answer t m o)
  by_thread answer None = level
  by_thread answer (Some l) = either l.ended _ _ level (by_tx answer l l.tx)

  by_end : (answer : Clash → Choice) (o : Option End) → Rises (turn_at a p answer t m o)
  by_end answer None = by_thread answer (m.threads t)
  by_end answer (Some e) = level

  -- the machine that a turn led to
  pub births_rise : (answer : Clash → Choice) (kind : TurnKind) (new : Machine S) → record { machine = new; kind = kind } ≡ turn a p answer t m
      → new.births ≤ m.births + 1
  births_rise answer kind new e = let i = ap (λ (r : Turned S). r.machine.births) e in let h = (by_end answer m.end).0 in omega (arith, i, h)

  pub depth_rises : (answer : Clash → Choice) (kind : TurnKind) (new : Machine S) → record { machine = new; kind = kind } ≡ turn a p answer t m
      → new.lock.depth ≤ m.lock.depth + 1
  depth_rises answer kind new e = let i = ap (λ (r : Turned S). r.machine.lock.depth) e in let h = (by_end answer m.end).1 in omega (arith, i, h)
