-- A transaction keeps its birth.
use Rattle.std.proofs.Common.{ℕ, ℤ, pos, ◌≡◌, Bool, true, false, cond, refl, ap, sym, ◌∙◌, List, [], ◌∷◌, Option, Some, None}
use Rattle.std.specs.Prelude.{nat_lt}
use Rattle.std.proofs.lemmas.Bool.{eqb-true, false≢true}
use Rattle.choosers.specs.declared.Clash.{Clash}
use Rattle.choosers.specs.declared.Choice.{Choice}
use Rattle.choosers.specs.declared.Choice.TheVariants.{Wait, Yield}
use Rattle.tx_events.specs.declared.End.{End}
use Rattle.tx_events.specs.declared.BlockKind.{BlockKind}
use Rattle.tx_events.specs.declared.BlockKind.TheVariants.{NoExcept, Commit, Cancel}
use Rattle.tx_events.specs.declared.Event.{Event}
use Rattle.tx_events.specs.declared.Event.TheVariants.{
  Silent,
  Load,
  Store,
  Out,
  Inp,
  Spawn,
  Join,
  BeginAtomic,
  EndAtomic,
  Raise,
  BeginSync,
  EndSync,
  Done,
  Stop,
}
use Rattle.tx_events.specs.declared.Reply.TheVariants.{Nothing, Id}
use Rattle.tx_events.specs.Thread.{Thread}
use Rattle.tx_events.specs.Memory.{update, MemoryLayout, can_access, word_of, word_bound}
use Rattle.tx_events.specs.World.{target}
use Rattle.tx_serial.specs.Machine.{
  Machine,
  Local,
  Tx,
  NoTx,
  OpenTx,
  GivingUp,
  Closing,
  Save,
  is_noted,
  birth,
  birth_of,
  has_tx,
  tx_in,
  least,
  blocker,
  lock_owner,
  busy,
  clash_of,
}
use Rattle.tx_serial.specs.Turn.{
  Turned,
  bare,
  gives_up,
  clashes,
  load_in,
  store_in,
  load_out,
  store_out,
  joins,
  begins,
  sync_in,
  sync_idle,
  closes,
  outermost,
  commits,
  cancels_by,
  cancels,
  raises,
  in_does,
  out_does,
  without,
  lets_go,
  given_back,
  gives_back,
  turn_in,
  turn_of,
  turn_at,
  turn,
}
use Rattle.tx_serial.proofs.UntouchedThreads.{at_update}

module _ {S : Type 0} (a : Thread S) (p : MemoryLayout) (t : ℕ) (m : Machine S) (l : Local S) (is : m.threads t ≡ Some l) where
  -- every transaction that is there before and after has one birth
  abbrev pub SameBirth : (ℕ → Option (Local S)) → Type 0
  SameBirth threads = (u : ℕ) → tx_in (m.threads u) ≡ true → tx_in (threads u) ≡ true → birth_of (threads u) ≡ birth_of (m.threads u)

  abbrev Same : Turned S → Type 0
  Same r = SameBirth r.machine.threads

  -- thread t goes on, in its transaction or without one
  to : (l' : Local S) → (has_tx l.tx ≡ true → has_tx l'.tx ≡ true → birth l'.tx ≡ birth l.tx) → SameBirth (update m.threads t (Some l'))
  to l' h u = at_update a p (λ o. tx_in (m.threads u) ≡ true → tx_in o ≡ true → birth_of o ≡ birth_of (m.threads u)) m.threads t u (Some l')
      (λ e i j. let same : m.threads u ≡ Some l = ap m.threads (eqb-true u t e) ∙ is in h (sym (ap tx_in same) ∙ i) j ∙ sym (ap birth_of same))
      (λ d i j. refl)

  still : SameBirth m.threads
  still u i j = refl

  either : (b : Bool) (x y : Turned S) → Same x → Same y → Same (cond b x y)
  either true x y f g = f
  either false x y f g = g

  -- outside a transaction
  module _ (tx : l.tx ≡ NoTx) where
    new : (l' : Local S) → SameBirth (update m.threads t (Some l'))
    new l' = to l' (λ i j. absurd (false≢true (sym (ap has_tx tx) ∙ i)))

    load_same : (addr size : ℕ) (o : Option ℕ) → Same (load_out a t m l addr size o)
    load_same addr size (Some u) = still
    load_same addr size None = new _

    store_same : (addr size value : ℕ) (o : Option ℕ) → Same (store_out a t m l addr size value o)
    store_same addr size value (Some u) = still
    store_same addr size value None = new _

    begin_same : (o : Option ℕ) → Same (begins t m l (a.after l.state Nothing) o)
    begin_same (Some u) = still
    begin_same None = new _

    idle_same : (o : Option ℕ) → Same (sync_idle t m (record l { state = a.after l.state Nothing }) o)
    idle_same (Some u) = still
    idle_same None = new _

    sync_same : (o : Option ℕ) → Same (sync_in t m (record l { state = a.after l.state Nothing }) o)
    sync_same (Some u) = still
    sync_same None = idle_same (busy t m)

    join_same : (id : ℤ) (o : Option (Local S)) → Same (joins t id m (record l { state = a.after l.state Nothing }) o)
    join_same id None = still
    join_same id (Some u) = either u.ended _ _ (new _) still

    spawn_same : (c : S) (l' : Local S) → SameBirth (update (update m.threads m.started (Some (bare c))) t (Some l'))
    spawn_same c l' u = at_update a p (λ o. tx_in (m.threads u) ≡ true → tx_in o ≡ true → birth_of o ≡ birth_of (m.threads u))
        (update m.threads m.started (Some (bare c))) t u (Some l')
        (λ e i j. let same : m.threads u ≡ Some l = ap m.threads (eqb-true u t e) ∙ is in absurd (false≢true (sym (ap has_tx tx) ∙ (sym (ap tx_in same) ∙ i))))
        (λ d. at_update a p (λ o. tx_in (m.threads u) ≡ true → tx_in o ≡ true → birth_of o ≡ birth_of (m.threads u)) m.threads m.started u (Some (bare c))
        (λ e i j. absurd (false≢true j)) (λ e i j. refl))

    out_same : (e : Event) → Same (out_does a p t m l e)
    out_same Silent = new _
    out_same (Load addr size vol) = either (can_access p addr size) _ _ (load_same addr size (blocker t false (word_of addr) m)) still
    out_same (Store addr size value vol) = either (can_access p addr size) _ _ (store_same addr size value (blocker t true (word_of addr) m)) still
    out_same (BeginAtomic kind) = begin_same (lock_owner t m.lock.holder)
    out_same EndAtomic = still
    out_same (Raise kind can) = still
    out_same BeginSync = sync_same (lock_owner t m.lock.holder)
    out_same EndSync = new _
    out_same (Spawn f x) = either (nat_lt m.started p.limit) _ _
        (spawn_same (a.child l.state m.started f x) (record l { state = a.after l.state (Id (pos m.started)) })) still
    out_same (Join id) = join_same id (target t id m.threads)
    out_same (Out c) = new _
    out_same Inp = new _
    out_same Done = new _
    out_same (Stop e) = still

  closes_birth : (b : ℕ) (o : Option ℕ) → has_tx {S = S} (closes b o) ≡ true → birth {S = S} (closes b o) ≡ b
  closes_birth b None i = absurd (false≢true i)
  closes_birth b (Some x) i = refl

  -- in an open transaction
  module _ (b : ℕ) (kk : S) (ss : List Save) (tx : l.tx ≡ OpenTx b kk ss) where
    own : birth l.tx ≡ b
    own = ap birth tx

    in_tx : (l' : Local S) → birth l'.tx ≡ b → SameBirth (update m.threads t (Some l'))
    in_tx l' e = to l' (λ i j. e ∙ sym own)

    ending : (l' : Local S) (o : Option ℕ) → l'.tx ≡ closes b o → SameBirth (update m.threads t (Some l'))
    ending l' o e = to l' (λ i j. ap birth e ∙ (closes_birth b o (sym (ap has_tx e) ∙ j) ∙ sym own))

    gives_birth : (o : Option ℕ) → birth (gives_up l b kk ss o).tx ≡ b
    gives_birth None = refl
    gives_birth (Some x) = refl

    clash_same : (c : Choice) (x u : ℕ) → Same (clashes p c t m l b kk ss x u)
    clash_same Wait x u = still
    clash_same Yield x u = in_tx (gives_up l b kk ss (least l.held (word_bound p))) (gives_birth (least l.held (word_bound p)))

    load_in_same : (answer : Clash → Choice) (addr size : ℕ) (o : Option ℕ) → Same (load_in a p answer t m l b kk ss addr size o)
    load_in_same answer addr size (Some u) = clash_same (answer (clash_of t false (word_of addr) m b u)) (word_of addr) u
    load_in_same answer addr size None = in_tx _ refl

    store_in_same : (answer : Clash → Choice) (addr size value : ℕ) (o : Option ℕ) → Same (store_in a p answer t m l b kk ss addr size value o)
    store_in_same answer addr size value (Some u) = clash_same (answer (clash_of t true (word_of addr) m b u)) (word_of addr) u
    store_in_same answer addr size value None = in_tx _ refl

    outermost_same : (s : S) → Same (outermost p t m l s b)
    outermost_same s = ending (record l { state = s; tx = closes b (least l.held (word_bound p)) }) (least l.held (word_bound p)) refl

    commits_same : (s : S) (ts : List Save) → Same (commits p t m l s b kk ts)
    commits_same s [] = still
    commits_same s (n ∷ []) = outermost_same s
    commits_same s (n ∷ o ∷ ts) = in_tx _ refl

    cancels_same : (s : S) (n : Save) (ts : List Save) (o : Option ℕ) → Same (cancels_by p t m l s b kk n ts o)
    cancels_same s n ts (Some x) = in_tx _ refl
    cancels_same s n [] None = outermost_same s
    cancels_same s n (o ∷ ts) None = in_tx _ refl

    saves_same : (s : S) (ts : List Save) → Same (cancels p t m l s b kk ts)
    saves_same s [] = still
    saves_same s (n ∷ ts) = cancels_same s n ts (least (is_noted n) (word_bound p))

    raises_same : (s : S) (kind : BlockKind) (can : Bool) → Same (raises p t m l s b kk ss kind can)
    raises_same s NoExcept can = still
    raises_same s Commit can = commits_same s ss
    raises_same s Cancel true = saves_same s ss
    raises_same s Cancel false = still

    in_same : (answer : Clash → Choice) (e : Event) → Same (in_does a p answer t m l b kk ss e)
    in_same answer Silent = in_tx _ refl
    in_same answer (Load addr size vol) = either (can_access p addr size) _ _ (load_in_same answer addr size (blocker t false (word_of addr) m)) still
    in_same answer (Store addr size value vol) = either (can_access p addr size) _ _
        (store_in_same answer addr size value (blocker t true (word_of addr) m)) still
    in_same answer (BeginAtomic kind) = in_tx _ refl
    in_same answer EndAtomic = commits_same (a.after l.state Nothing) ss
    in_same answer (Raise kind can) = raises_same (a.after l.state Nothing) kind can
    in_same answer BeginSync = in_tx _ refl
    in_same answer EndSync = in_tx _ refl
    in_same answer (Stop e) = still
    in_same answer (Spawn f x) = still
    in_same answer (Join id) = still
    in_same answer (Out c) = still
    in_same answer Inp = still
    in_same answer Done = still

  back_birth : (b : ℕ) (kk : S) (ss : List Save) (x : ℕ) (o : Option ℕ) → birth (given_back l b kk ss x o).tx ≡ b
  back_birth b kk ss x None = refl
  back_birth b kk ss x (Some y) = refl

  back_same : (b : ℕ) (kk : S) (ss : List Save) → l.tx ≡ GivingUp b kk ss → (o : Option ℕ) → Same (gives_back p t m l b kk ss o)
  back_same b kk ss tx None = still
  back_same b kk ss tx (Some x) = let rest = least (without l.held x) (word_bound p) in
      to (given_back l b kk ss x rest) (λ i j. back_birth b kk ss x rest ∙ sym (ap birth tx))

  go_same : (b : ℕ) → l.tx ≡ Closing b → (o : Option ℕ) → Same (lets_go p t m l b o)
  go_same b tx None = still
  go_same b tx (Some x) =
      let rest = least (without l.held x) (word_bound p) in
      to (record l { held = without l.held x; wrote = without l.wrote x; tx = closes b rest }) (λ i j. closes_birth b rest j ∙ sym (ap birth tx))

  tx_same : (answer : Clash → Choice) (tx : Tx S) → l.tx ≡ tx → Same (turn_in a p answer t m l tx)
  tx_same answer NoTx e = out_same e (a.next l.state)
  tx_same answer (OpenTx b kk ss) e = in_same b kk ss e answer (a.next l.state)
  tx_same answer (GivingUp b kk ss) e = back_same b kk ss e (least l.held (word_bound p))
  tx_same answer (Closing b) e = go_same b e (least l.held (word_bound p))

module _ {S : Type 0} (a : Thread S) (p : MemoryLayout) (answer : Clash → Choice) (t : ℕ) (m : Machine S) where
  abbrev Keeps : Turned S → Type 0
  Keeps r = (u : ℕ) → tx_in (m.threads u) ≡ true → tx_in (r.machine.threads u) ≡ true → birth_of (r.machine.threads u) ≡ birth_of (m.threads u)

  by_thread : (o : Option (Local S)) → m.threads t ≡ o → Keeps (turn_of a p answer t m o)
  by_thread None i = λ u j k. refl
  by_thread (Some l) i = either a p t m l i l.ended _ _ (λ u j k. refl) (tx_same a p t m l i answer l.tx refl)

  by_end : (o : Option End) → Keeps (turn_at a p answer t m o)
  by_end (Some e) = λ u j k. refl
  by_end None = by_thread (m.threads t) refl

  pub same_birth : (u : ℕ) → tx_in (m.threads u) ≡ true → tx_in ((turn a p answer t m).machine.threads u) ≡ true
      → birth_of ((turn a p answer t m).machine.threads u) ≡ birth_of (m.threads u)
  same_birth = by_end m.end
