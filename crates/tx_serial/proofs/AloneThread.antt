-- A thread that is alone never waits.
use Rattle.std.proofs.Common.{ℕ, ℤ, pos, negsuc, ◌≡◌, ◌==◌, Bool, true, false, cond, refl, ap, sym, ◌∙◌, subst, List, [], ◌∷◌, Option, Some, None}
use Rattle.std.specs.Prelude.{not, ◌&&◌, ◌||◌, nat_lt}
use Rattle.std.proofs.lemmas.Bool.{true≢false}
use Rattle.tx_events.specs.declared.End.{End}
use Rattle.tx_events.specs.declared.BlockKind.{BlockKind}
use Rattle.tx_events.specs.declared.BlockKind.TheVariants.{NoExcept, Commit, Cancel}
use Rattle.tx_events.specs.declared.Event.{Event}
use Rattle.tx_events.specs.declared.Event.TheVariants.{
  Silent,
  Load,
  Store,
  Out,
  Inp,
  Spawn,
  Join,
  BeginAtomic,
  EndAtomic,
  Raise,
  BeginSync,
  EndSync,
  Done,
  Stop,
}
use Rattle.tx_events.specs.declared.Reply.TheVariants.{Nothing}
use Rattle.tx_events.specs.declared.TurnKind.{TurnKind}
use Rattle.tx_events.specs.declared.TurnKind.TheVariants.{Ran, Idle, Undone, Released}
use Rattle.choosers.specs.declared.Clash.{Clash}
use Rattle.choosers.specs.declared.Choice.{Choice}
use Rattle.tx_events.specs.Thread.{Thread}
use Rattle.tx_events.specs.Memory.{update, MemoryLayout, can_access, word_of, word_bound}
use Rattle.tx_events.specs.World.{Lock, target, lock_free, holder_free, lock_out}
use Rattle.tx_serial.specs.Machine.{
  Machine,
  Local,
  Tx,
  NoTx,
  OpenTx,
  GivingUp,
  Closing,
  Save,
  blocker,
  busy,
  lock_owner,
  least,
  is_noted,
  conflicts_with,
  birth_of,
  live_in,
  eldest,
}
use Rattle.tx_serial.specs.Turn.{
  Turned,
  load_in,
  store_in,
  load_out,
  store_out,
  joins,
  begins,
  sync_in,
  sync_idle,
  commits,
  cancels_by,
  cancels,
  raises,
  in_does,
  out_does,
  lets_go,
  gives_back,
  turn_in,
  turn_of,
  turn_at,
  turn,
}
use Rattle.tx_serial.specs.Bound.{is_waiting, is_spawn}
use Rattle.tx_serial.proofs.PendingWork.{Lone}
use Rattle.tx_events.proofs.BlockRuns.{update_elsewhere}

module _ {S : Type 0} (a : Thread S) (p : MemoryLayout) (m : Machine S) (l : Local S) (h : Lone m) where
  abbrev Goes : Turned S → Type 0
  Goes r = Lone r.machine × (is_waiting r.kind ≡ false)

  -- another state of thread 0
  moves : (m' : Machine S) (kind : TurnKind) (o : Option (Local S)) → m'.threads ≡ update m.threads 0 o → m'.started ≡ m.started → lock_free 0 m'.lock ≡ true
      → is_waiting kind ≡ false → Goes (record { machine = m'; kind = kind })
  moves m' kind o threads started lock w =
      (record { started = started ∙ h.started; fresh = λ u d. ap (λ f. f u) threads ∙ (update_elsewhere m.threads 0 o u d ∙ h.fresh u d); lock = lock }, w)

  keeps : (m' : Machine S) (kind : TurnKind) → m'.threads ≡ m.threads → m'.started ≡ m.started → m'.lock ≡ m.lock → is_waiting kind ≡ false
      → Goes (record { machine = m'; kind = kind })
  keeps m' kind threads started lock w =
      (record { started = started ∙ h.started; fresh = λ u d. ap (λ f. f u) threads ∙ h.fresh u d; lock = ap (lock_free 0) lock ∙ h.lock }, w)

  either : (b : Bool) (x y : Turned S) → Goes x → Goes y → Goes (cond b x y)
  either true x y f g = f
  either false x y f g = g

  no_blocker : (store : Bool) (x : ℕ) → blocker 0 store x m ≡ None
  no_blocker store x = ap (eldest (conflicts_with 0 store x m.threads) (λ u. birth_of (m.threads u))) h.started

  no_busy : busy 0 m ≡ None
  no_busy = ap (least (λ u. not (u == 0) && live_in (m.threads u))) h.started

  owner_none : (o : Option ℕ) → holder_free 0 o ≡ true → lock_owner 0 o ≡ None
  owner_none None e = refl
  owner_none (Some u) e = ap (λ b. cond b None (Some u)) e

  no_owner : lock_owner 0 m.lock.holder ≡ None
  no_owner = owner_none m.lock.holder h.lock

  free_out : (n : Lock) → lock_free 0 n ≡ true → lock_free 0 (lock_out n) ≡ true
  free_out n e = elim (nat_lt 1 n.depth) as (λ b. lock_free 0 (record { holder = cond b n.holder None; depth = 0 }) ≡ true) [ true ↦ e | false ↦ refl ]

  join_goes : (id : ℤ) → Goes (joins 0 id m (record l { state = a.after l.state Nothing }) (target 0 id m.threads))
  join_goes (negsuc n) = keeps _ Ran refl refl refl refl
  join_goes (pos n) = subst (λ o. Goes (joins 0 (pos n) m (record l { state = a.after l.state Nothing }) o)) (sym none_there) (keeps _ Ran refl refl refl refl)
    where
      none_there : target 0 (pos n) m.threads ≡ None
      none_there = elim (n == 0) as (λ b. (n == 0) ≡ b → cond (b || b) None (m.threads n) ≡ None) [ true ↦ λ e. refl | false ↦ λ e. h.fresh n e ] refl

  out_goes : (e : Event) → is_spawn e ≡ false → Goes (out_does a p 0 m l e)
  out_goes Silent s = moves _ Ran (Some _) refl refl h.lock refl
  out_goes (Load addr size vol) s = either (can_access p addr size) _ _
      (subst (λ o. Goes (load_out a 0 m l addr size o)) (sym (no_blocker false (word_of addr))) (moves _ Ran (Some _) refl refl h.lock refl))
      (keeps _ Ran refl refl refl refl)
  out_goes (Store addr size value vol) s = either (can_access p addr size) _ _
      (subst (λ o. Goes (store_out a 0 m l addr size value o)) (sym (no_blocker true (word_of addr))) (moves _ Ran (Some _) refl refl h.lock refl))
      (keeps _ Ran refl refl refl refl)
  out_goes (BeginAtomic kind) s = subst (λ o. Goes (begins 0 m l (a.after l.state Nothing) o)) (sym no_owner) (moves _ Ran (Some _) refl refl h.lock refl)
  out_goes EndAtomic s = keeps m Idle refl refl refl refl
  out_goes (Raise kind can) s = keeps m Idle refl refl refl refl
  out_goes BeginSync s = subst (λ o. Goes (sync_in 0 m (record l { state = a.after l.state Nothing }) o)) (sym no_owner)
      (subst (λ o. Goes (sync_idle 0 m (record l { state = a.after l.state Nothing }) o)) (sym no_busy) (moves _ Ran (Some _) refl refl refl refl))
  out_goes EndSync s = moves _ Ran (Some _) refl refl (free_out m.lock h.lock) refl
  out_goes (Spawn g x) s = absurd (true≢false s)
  out_goes (Join id) s = join_goes id
  out_goes (Out c) s = moves _ Ran (Some _) refl refl h.lock refl
  out_goes Inp s = moves _ Ran (Some _) refl refl h.lock refl
  out_goes Done s = moves _ Ran (Some _) refl refl h.lock refl
  out_goes (Stop e) s = keeps _ Ran refl refl refl refl

  module _ (b : ℕ) (kk : S) (ss : List Save) where
    commits_go : (s : S) (ts : List Save) → Goes (commits p 0 m l s b kk ts)
    commits_go s [] = keeps m Idle refl refl refl refl
    commits_go s (n ∷ []) = moves _ Ran (Some _) refl refl h.lock refl
    commits_go s (n ∷ o ∷ ts) = moves _ Ran (Some _) refl refl h.lock refl

    cancels_go : (s : S) (n : Save) (ts : List Save) (o : Option ℕ) → Goes (cancels_by p 0 m l s b kk n ts o)
    cancels_go s n ts (Some x) = moves _ (Undone x) (Some _) refl refl h.lock refl
    cancels_go s n [] None = moves _ Ran (Some _) refl refl h.lock refl
    cancels_go s n (o ∷ ts) None = moves _ Ran (Some _) refl refl h.lock refl

    saves_go : (s : S) (ts : List Save) → Goes (cancels p 0 m l s b kk ts)
    saves_go s [] = keeps m Idle refl refl refl refl
    saves_go s (n ∷ ts) = cancels_go s n ts (least (is_noted n) (word_bound p))

    raises_go : (s : S) (kind : BlockKind) (can : Bool) → Goes (raises p 0 m l s b kk ss kind can)
    raises_go s NoExcept can = keeps _ Ran refl refl refl refl
    raises_go s Commit can = commits_go s ss
    raises_go s Cancel true = saves_go s ss
    raises_go s Cancel false = keeps _ Ran refl refl refl refl

    in_goes : (answer : Clash → Choice) (e : Event) → Goes (in_does a p answer 0 m l b kk ss e)
    in_goes answer Silent = moves _ Ran (Some _) refl refl h.lock refl
    in_goes answer (Load addr size vol) = either (can_access p addr size) _ _
        (subst (λ o. Goes (load_in a p answer 0 m l b kk ss addr size o)) (sym (no_blocker false (word_of addr))) (moves _ Ran (Some _) refl refl h.lock refl))
        (keeps _ Ran refl refl refl refl)
    in_goes answer (Store addr size value vol) = either (can_access p addr size) _ _
        (subst (λ o. Goes (store_in a p answer 0 m l b kk ss addr size value o)) (sym (no_blocker true (word_of addr)))
        (moves _ Ran (Some _) refl refl h.lock refl)) (keeps _ Ran refl refl refl refl)
    in_goes answer (BeginAtomic kind) = moves _ Ran (Some _) refl refl h.lock refl
    in_goes answer EndAtomic = commits_go (a.after l.state Nothing) ss
    in_goes answer (Raise kind can) = raises_go (a.after l.state Nothing) kind can
    in_goes answer BeginSync = moves _ Ran (Some _) refl refl h.lock refl
    in_goes answer EndSync = moves _ Ran (Some _) refl refl h.lock refl
    in_goes answer (Stop e) = keeps _ Ran refl refl refl refl
    in_goes answer (Spawn g x) = keeps m Idle refl refl refl refl
    in_goes answer (Join id) = keeps m Idle refl refl refl refl
    in_goes answer (Out c) = keeps m Idle refl refl refl refl
    in_goes answer Inp = keeps m Idle refl refl refl refl
    in_goes answer Done = keeps m Idle refl refl refl refl

    back_goes : (o : Option ℕ) → Goes (gives_back p 0 m l b kk ss o)
    back_goes None = keeps m Idle refl refl refl refl
    back_goes (Some x) = moves _ (Undone x) (Some _) refl refl h.lock refl

  go_goes : (b : ℕ) (o : Option ℕ) → Goes (lets_go p 0 m l b o)
  go_goes b None = keeps m Idle refl refl refl refl
  go_goes b (Some x) = moves _ (Released x) (Some _) refl refl h.lock refl

  tx_goes : (answer : Clash → Choice) (tx : Tx S) → (tx ≡ NoTx → is_spawn (a.next l.state) ≡ false) → Goes (turn_in a p answer 0 m l tx)
  tx_goes answer NoTx s = out_goes (a.next l.state) (s refl)
  tx_goes answer (OpenTx b kk ss) s = in_goes b kk ss answer (a.next l.state)
  tx_goes answer (GivingUp b kk ss) s = back_goes b kk ss (least l.held (word_bound p))
  tx_goes answer (Closing b) s = go_goes b (least l.held (word_bound p))

  -- a turn of the thread that is alone
  pub lone_turn : (answer : Clash → Choice) → m.threads 0 ≡ Some l → (l.tx ≡ NoTx → is_spawn (a.next l.state) ≡ false) → Goes (turn a p answer 0 m)
  lone_turn answer is s = by_end m.end
    where
      by_end : (o : Option End) → Goes (turn_at a p answer 0 m o)
      by_end (Some e) = keeps m Idle refl refl refl refl
      by_end None = subst (λ o. Goes (turn_of a p answer 0 m o)) (sym is) (either l.ended _ _ (keeps m Idle refl refl refl refl) (tx_goes answer l.tx s))
