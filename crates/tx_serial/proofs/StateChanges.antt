-- What a turn does to the state of its thread.
use Rattle.std.proofs.Common.{ℕ, ℤ, pos, ◌≡◌, Bool, true, false, cond, refl, sym, subst, List, [], ◌∷◌, Option, Some, None}
use Rattle.std.specs.Prelude.{nat_lt}
use Rattle.std.proofs.lemmas.Bool.{true≢false}
use Rattle.tx_events.specs.declared.End.{End}
use Rattle.tx_events.specs.declared.End.TheVariants.{Abort, Trapped}
use Rattle.tx_events.specs.declared.Trap.TheVariants.{BadAddress, TooManyThreads, BadJoin}
use Rattle.tx_events.specs.declared.BlockKind.{BlockKind}
use Rattle.tx_events.specs.declared.BlockKind.TheVariants.{NoExcept, Commit, Cancel}
use Rattle.tx_events.specs.declared.Event.{Event}
use Rattle.tx_events.specs.declared.Event.TheVariants.{
  Silent,
  Load,
  Store,
  Out,
  Inp,
  Spawn,
  Join,
  BeginAtomic,
  EndAtomic,
  Raise,
  BeginSync,
  EndSync,
  Done,
  Stop,
}
use Rattle.tx_events.specs.declared.Reply.{Reply}
use Rattle.tx_events.specs.declared.Reply.TheVariants.{Nothing, Loaded, Byte, Id}
use Rattle.tx_events.specs.declared.TurnKind.{TurnKind}
use Rattle.tx_events.specs.declared.TurnKind.TheVariants.{Ran, Idle, Undone, Released, Waited, Rolled, BlockWait, JoinWait}
use Rattle.choosers.specs.declared.Clash.{Clash}
use Rattle.choosers.specs.declared.Choice.{Choice}
use Rattle.choosers.specs.declared.Choice.TheVariants.{Wait, Yield}
use Rattle.tx_events.specs.Thread.{Thread}
use Rattle.tx_events.specs.Memory.{update, MemoryLayout, can_access, word_of, word_bound, load}
use Rattle.tx_events.specs.World.{target, byte_of}
use Rattle.tx_serial.specs.Machine.{
  Machine,
  Local,
  Tx,
  NoTx,
  OpenTx,
  GivingUp,
  Closing,
  Save,
  no_save,
  lock_owner,
  clash_of,
  hand,
  note,
  forget,
  blocker,
  busy,
  least,
  is_noted,
}
use Rattle.tx_serial.specs.Turn.{
  Turned,
  number_of,
  bare,
  clashes,
  gives_up,
  closes,
  without,
  halts,
  load_in,
  store_in,
  load_out,
  store_out,
  joins,
  begins,
  sync_in,
  sync_idle,
  outermost,
  commits,
  cancels_by,
  cancels,
  raises,
  in_does,
  out_does,
  lets_go,
  turn_in,
  turn_of,
  turn_at,
  turn,
}
use Rattle.tx_serial.specs.Bound.{is_waiting}
use Rattle.tx_serial.proofs.PendingWork.{is_giving}
use Rattle.tx_events.proofs.BlockRuns.{update_same}

module _ {S : Type 0} (a : Thread S) (p : MemoryLayout) (t : ℕ) (m : Machine S) (l : Local S) (is : m.threads t ≡ Some l) (calm : is_giving l.tx ≡ false) where
  abbrev pub ByKind : TurnKind → S → Type 0
  ByKind Ran s = (r : Reply) × (s ≡ a.after l.state r)
  ByKind (Rolled x u) s = Unit {0}
  ByKind (Undone x) s = s ≡ l.state
  ByKind (Released x) s = s ≡ l.state
  ByKind Idle s = s ≡ l.state
  ByKind (Waited x u) s = s ≡ l.state
  ByKind (BlockWait u) s = s ≡ l.state
  ByKind (JoinWait u) s = s ≡ l.state

  pub record Moved (kind : TurnKind) (o : Option (Local S)) : Type 0 where
    pub now : Local S
    pub at : o ≡ Some now
    pub state : ByKind kind now.state
    pub giving : is_waiting kind ≡ false → is_giving now.tx ≡ false

  abbrev pub Moves : Turned S → Type 0
  Moves r = r.machine.end ≡ None → Moved r.kind (r.machine.threads t)

  to : (kind : TurnKind) (l' : Local S) → ByKind kind l'.state → (is_waiting kind ≡ false → is_giving l'.tx ≡ false)
      → Moved kind (update m.threads t (Some l') t)
  to kind l' s g = record { now = l'; at = update_same m.threads t (Some l'); state = s; giving = g }

  still : (kind : TurnKind) → ByKind kind l.state → Moved kind (m.threads t)
  still kind s = record { now = l; at = is; state = s; giving = λ w. calm }

  over : (e : End) → Moves (halts t m e)
  over e = λ h. absurd (cc)

  either : (b : Bool) (x y : Turned S) → Moves x → Moves y → Moves (cond b x y)
  either true x y f g = f
  either false x y f g = g

  plain : (r : Reply) (b : Bool) → Moved Ran (update m.threads t (Some (record l { state = a.after l.state r; ended = b })) t)
  plain r b = to Ran (record l { state = a.after l.state r; ended = b }) (r, refl) (λ w. calm)

  load_out_moves : (addr size : ℕ) (o : Option ℕ) → Moves (load_out a t m l addr size o)
  load_out_moves addr size (Some u) = λ h. still (Waited (word_of addr) u) refl
  load_out_moves addr size None = λ h. plain (Loaded (load m.memory addr size)) l.ended

  store_out_moves : (addr size value : ℕ) (o : Option ℕ) → Moves (store_out a t m l addr size value o)
  store_out_moves addr size value (Some u) = λ h. still (Waited (word_of addr) u) refl
  store_out_moves addr size value None = λ h. plain Nothing l.ended

  join_moves : (id : ℤ) (o : Option (Local S)) → Moves (joins t id m (record l { state = a.after l.state Nothing }) o)
  join_moves id None = over (Trapped BadJoin)
  join_moves id (Some u) = either u.ended _ _ (λ h. plain Nothing l.ended) (λ h. still (JoinWait (number_of id)) refl)

  idle_moves : (o : Option ℕ) → Moves (sync_idle t m (record l { state = a.after l.state Nothing }) o)
  idle_moves (Some u) = λ h. still (BlockWait u) refl
  idle_moves None = λ h. plain Nothing l.ended

  sync_moves : (o : Option ℕ) → Moves (sync_in t m (record l { state = a.after l.state Nothing }) o)
  sync_moves (Some u) = λ h. still (BlockWait u) refl
  sync_moves None = idle_moves (busy t m)

  begin_moves : (o : Option ℕ) → Moves (begins t m l (a.after l.state Nothing) o)
  begin_moves (Some u) = λ h. still (BlockWait u) refl
  begin_moves None = λ h. to Ran (record l { state = a.after l.state Nothing; tx = OpenTx m.births (a.after l.state Nothing) (no_save ∷ []) }) (Nothing, refl)
      (λ w. refl)

  out_moves : (e : Event) → Moves (out_does a p t m l e)
  out_moves Silent = λ h. plain Nothing l.ended
  out_moves (Load addr size vol) = either (can_access p addr size) _ _ (load_out_moves addr size (blocker t false (word_of addr) m))
      (over (Trapped BadAddress))
  out_moves (Store addr size value vol) = either (can_access p addr size) _ _ (store_out_moves addr size value (blocker t true (word_of addr) m))
      (over (Trapped BadAddress))
  out_moves (BeginAtomic kind) = begin_moves (lock_owner t m.lock.holder)
  out_moves EndAtomic = λ h. still Idle refl
  out_moves (Raise kind can) = λ h. still Idle refl
  out_moves BeginSync = sync_moves (lock_owner t m.lock.holder)
  out_moves EndSync = λ h. plain Nothing l.ended
  out_moves (Spawn g x) = either (nat_lt m.started p.limit) _ _
      (λ h. record {
        now = record l { state = a.after l.state (Id (pos m.started)) };
        at = update_same (update m.threads m.started (Some (bare (a.child l.state m.started g x)))) t
            (Some (record l { state = a.after l.state (Id (pos m.started)) }));
        state = (Id (pos m.started), refl);
        giving = λ w. calm;
      })
      (over (Trapped TooManyThreads))
  out_moves (Join id) = join_moves id (target t id m.threads)
  out_moves (Out c) = λ h. plain Nothing l.ended
  out_moves Inp = λ h. plain (Byte (byte_of m.input)) l.ended
  out_moves Done = λ h. plain Nothing true
  out_moves (Stop e) = over e

  closes_calm : (b : ℕ) (o : Option ℕ) → is_giving {S = S} (closes b o) ≡ false
  closes_calm b None = refl
  closes_calm b (Some x) = refl

  module _ (b : ℕ) (kk : S) (ss : List Save) where
    -- another reply, with these savepoints
    inner : (r : Reply) (z : Tx S) (held wrote : ℕ → Bool) → is_giving z ≡ false
        → Moved Ran (update m.threads t (Some (record l { state = a.after l.state r; held = held; wrote = wrote; tx = z })) t)
    inner r z held wrote g = to Ran (record l { state = a.after l.state r; held = held; wrote = wrote; tx = z }) (r, refl) (λ w. g)

    same_gives : (o : Option ℕ) → (x u : ℕ) → Moved (Rolled x u) (update m.threads t (Some (gives_up l b kk ss o)) t)
    same_gives o x u = to (Rolled x u) (gives_up l b kk ss o) tt (λ w. absurd (true≢false w))

    clash_moves : (choice : Choice) (x u : ℕ) → Moves (clashes p choice t m l b kk ss x u)
    clash_moves Wait x u = λ h. still (Waited x u) refl
    clash_moves Yield x u = λ h. same_gives (least l.held (word_bound p)) x u

    load_in_moves : (answer : Clash → Choice) (addr size : ℕ) (o : Option ℕ) → Moves (load_in a p answer t m l b kk ss addr size o)
    load_in_moves answer addr size (Some u) = clash_moves (answer (clash_of t false (word_of addr) m b u)) (word_of addr) u
    load_in_moves answer addr size None = λ h. inner (Loaded (load m.memory addr size)) (OpenTx b kk ss) (update l.held (word_of addr) true) l.wrote refl

    store_in_moves : (answer : Clash → Choice) (addr size value : ℕ) (o : Option ℕ) → Moves (store_in a p answer t m l b kk ss addr size value o)
    store_in_moves answer addr size value (Some u) = clash_moves (answer (clash_of t true (word_of addr) m b u)) (word_of addr) u
    store_in_moves answer addr size value None = λ h. inner Nothing (OpenTx b kk (note ss (word_of addr) (m.memory (word_of addr))))
        (update l.held (word_of addr) true) (update l.wrote (word_of addr) true) refl

    outermost_moves : Moves (outermost p t m l (a.after l.state Nothing) b)
    outermost_moves = λ h. inner Nothing (closes b (least l.held (word_bound p))) l.held l.wrote (closes_calm b (least l.held (word_bound p)))

    commits_moves : (ts : List Save) → Moves (commits p t m l (a.after l.state Nothing) b kk ts)
    commits_moves [] = λ h. still Idle refl
    commits_moves (n ∷ []) = outermost_moves
    commits_moves (n ∷ o ∷ ts) = λ h. inner Nothing (OpenTx b kk (hand n o ∷ ts)) l.held l.wrote refl

    cancels_moves : (n : Save) (ts : List Save) (o : Option ℕ) → Moves (cancels_by p t m l (a.after l.state Nothing) b kk n ts o)
    cancels_moves n ts (Some x) = λ h. to (Undone x) (record l { tx = OpenTx b kk (forget n x ∷ ts) }) refl (λ w. refl)
    cancels_moves n [] None = outermost_moves
    cancels_moves n (o ∷ ts) None = λ h. inner Nothing (OpenTx b kk (o ∷ ts)) l.held l.wrote refl

    saves_moves : (ts : List Save) → Moves (cancels p t m l (a.after l.state Nothing) b kk ts)
    saves_moves [] = λ h. still Idle refl
    saves_moves (n ∷ ts) = cancels_moves n ts (least (is_noted n) (word_bound p))

    raises_moves : (kind : BlockKind) (can : Bool) → Moves (raises p t m l (a.after l.state Nothing) b kk ss kind can)
    raises_moves NoExcept can = over Abort
    raises_moves Commit can = commits_moves ss
    raises_moves Cancel true = saves_moves ss
    raises_moves Cancel false = over Abort

    in_moves : (answer : Clash → Choice) (e : Event) → Moves (in_does a p answer t m l b kk ss e)
    in_moves answer Silent = λ h. inner Nothing (OpenTx b kk ss) l.held l.wrote refl
    in_moves answer (Load addr size vol) = either (can_access p addr size) _ _ (load_in_moves answer addr size (blocker t false (word_of addr) m))
        (over (Trapped BadAddress))
    in_moves answer (Store addr size value vol) = either (can_access p addr size) _ _ (store_in_moves answer addr size value (blocker t true (word_of addr) m))
        (over (Trapped BadAddress))
    in_moves answer (BeginAtomic kind) = λ h. inner Nothing (OpenTx b kk (no_save ∷ ss)) l.held l.wrote refl
    in_moves answer EndAtomic = commits_moves ss
    in_moves answer (Raise kind can) = raises_moves kind can
    in_moves answer BeginSync = λ h. inner Nothing (OpenTx b kk ss) l.held l.wrote refl
    in_moves answer EndSync = λ h. inner Nothing (OpenTx b kk ss) l.held l.wrote refl
    in_moves answer (Stop e) = over e
    in_moves answer (Spawn g x) = λ h. still Idle refl
    in_moves answer (Join id) = λ h. still Idle refl
    in_moves answer (Out c) = λ h. still Idle refl
    in_moves answer Inp = λ h. still Idle refl
    in_moves answer Done = λ h. still Idle refl

  go_moves : (b : ℕ) (o : Option ℕ) → Moves (lets_go p t m l b o)
  go_moves b None = λ h. still Idle refl
  go_moves b (Some x) = λ h. to (Released x)
      (record l { held = without l.held x; wrote = without l.wrote x; tx = closes b (least (without l.held x) (word_bound p)) }) refl
      (λ w. closes_calm b (least (without l.held x) (word_bound p)))

  tx_moves : (answer : Clash → Choice) (tx : Tx S) → is_giving tx ≡ false → Moves (turn_in a p answer t m l tx)
  tx_moves answer NoTx g = out_moves (a.next l.state)
  tx_moves answer (OpenTx b kk ss) g = in_moves b kk ss answer (a.next l.state)
  tx_moves answer (GivingUp b kk ss) g = absurd (true≢false g)
  tx_moves answer (Closing b) g = go_moves b (least l.held (word_bound p))

  pub turn_moves : (answer : Clash → Choice) → Moves (turn a p answer t m)
  turn_moves answer = by_end m.end
    where
      by_end : (o : Option End) → Moves (turn_at a p answer t m o)
      by_end (Some e) = λ h. still Idle refl
      by_end None = subst (λ o. Moves (turn_of a p answer t m o)) (sym is) (either l.ended _ _ (λ h. still Idle refl) (tx_moves answer l.tx calm))
