-- Each turn keeps the machine sound, and is of a kind that may come.
use Rattle.std.proofs.Common.{
  ℕ,
  ℤ,
  pos,
  zero,
  suc,
  ◌≡◌,
  ◌==◌,
  ◌<◌,
  ◌≤◌,
  ◌+◌,
  ◌^◌,
  inl,
  inr,
  Bool,
  true,
  false,
  cond,
  refl,
  ap,
  sym,
  ◌∙◌,
  subst,
  List,
  [],
  ◌∷◌,
  length,
  Option,
  Some,
  None,
  arith,
}
use Rattle.std.specs.Prelude.{nat_lt}
use Rattle.std.proofs.lemmas.Bool.{eqb-true, true≢false, false≢true, ltb-true}
use Rattle.choosers.specs.declared.Clash.{Clash}
use Rattle.choosers.specs.declared.Choice.{Choice}
use Rattle.choosers.specs.declared.Choice.TheVariants.{Wait, Yield}
use Rattle.tx_events.specs.declared.TheConstants.{THREAD_LIMIT}
use Rattle.tx_events.specs.declared.End.{End}
use Rattle.tx_events.specs.declared.End.TheVariants.{Trapped}
use Rattle.tx_events.specs.declared.Trap.TheVariants.{BadJoin}
use Rattle.tx_events.specs.declared.BlockKind.{BlockKind}
use Rattle.tx_events.specs.declared.BlockKind.TheVariants.{NoExcept, Commit, Cancel}
use Rattle.tx_events.specs.declared.Event.{Event}
use Rattle.tx_events.specs.declared.Event.TheVariants.{
  Silent,
  Load,
  Store,
  Out,
  Inp,
  Spawn,
  Join,
  BeginAtomic,
  EndAtomic,
  Raise,
  BeginSync,
  EndSync,
  Done,
  Stop,
}
use Rattle.tx_events.specs.declared.Reply.{Reply}
use Rattle.tx_events.specs.declared.Reply.TheVariants.{Nothing, Loaded, Byte, Id}
use Rattle.tx_events.specs.declared.TurnKind.{TurnKind}
use Rattle.tx_events.specs.declared.TurnKind.TheVariants.{Ran, Waited, BlockWait, JoinWait, Idle}
use Rattle.tx_events.specs.Thread.{Thread, Lawful, Answers, atomics, blocks_after, may_come, rest_of, in_atomic, no_atomic}
use Rattle.tx_events.specs.Memory.{update, MemoryLayout, can_access, word_of, read_at, word_bound}
use Rattle.tx_events.specs.World.{target, byte_of}
use Rattle.tx_serial.specs.Machine.{
  Machine,
  Local,
  Tx,
  NoTx,
  OpenTx,
  GivingUp,
  Closing,
  Save,
  no_save,
  kept_or,
  oldest,
  hand,
  note,
  forget,
  forget_all,
  is_noted,
  birth,
  has_tx,
  tx_in,
  least,
  blocker,
  lock_owner,
  busy,
  clash_of,
}
use Rattle.tx_serial.specs.Turn.{
  Slot,
  Turned,
  number_of,
  steps,
  ran,
  stays,
  halts,
  waited,
  bare,
  again,
  gives_up,
  clashes,
  load_in,
  store_in,
  load_out,
  store_out,
  joins,
  begins,
  sync_in,
  sync_idle,
  spawns,
  closes,
  outermost,
  commits,
  cancels_by,
  cancels,
  raises,
  in_does,
  out_does,
  without,
  lets_go,
  given_back,
  gives_back,
  turn_in,
  turn_of,
  turn_at,
  turn,
  turns,
  first_machine,
  first_thread,
}
use Rattle.tx_serial.specs.Sound.{IsKept, is_some_save, SoundTx, SoundLocal, SoundThread, Sound}
use Rattle.tx_serial.specs.Kinds.{Accesses, Shut, NewestNotes, KindOut, KindIn, KindBy, GoesOn}
use Rattle.tx_events.proofs.WordLemmas.{read_fits, byte_int, access_below}
use Rattle.tx_events.proofs.BlockRuns.{update_elsewhere, update_true}
use Rattle.tx_serial.proofs.SearchLemmas.{eldest_none}
use Rattle.tx_serial.proofs.OpenBlocks.{keeps_blocks, rest_atomic, kind_atomic, blocks_kept, none_atomic, none_here, empty_none}
use Rattle.tx_serial.proofs.BirthLemmas.{sound_change, sound_same, grown}
use Rattle.tx_serial.proofs.TurnContext.{not_true}

module _ {S : Type 0} (R : S → Type 0) (a : Thread S) (laws : Lawful S R a) (p : MemoryLayout) (small : p.limit ≤ THREAD_LIMIT) (t : ℕ) (m : Machine S)
    (l : Local S) (h : Sound R a p m) (is : m.threads t ≡ Some l) (here : SoundLocal R a p l) where
  reached_by : (e : Event) → a.next l.state ≡ e → (r : Reply) → Answers e r → R (a.after l.state r)
  reached_by e i r f = laws.goes_on l.state r here.reached (subst (λ z. Answers z r) (sym i) f)

  blocks_by : (e : Event) → a.next l.state ≡ e → (r : Reply) → Answers e r → a.blocks (a.after l.state r) ≡ blocks_after e (a.blocks l.state)
  blocks_by e i r f = laws.blocks l.state r here.reached (subst (λ z. Answers z r) (sym i) f) ∙ ap (λ z. blocks_after z (a.blocks l.state)) i

  comes : (e : Event) → a.next l.state ≡ e → may_come e (a.blocks l.state) ≡ true
  comes e i = ap (λ z. may_come z (a.blocks l.state)) (sym i) ∙ laws.comes l.state here.reached

  depth_by : (e : Event) → a.next l.state ≡ e → keeps_blocks e ≡ true → (r : Reply) → Answers e r
      → atomics (a.blocks (a.after l.state r)) ≡ atomics (a.blocks l.state)
  depth_by e i c r f = ap atomics (blocks_by e i r f) ∙ blocks_kept e (a.blocks l.state) c (comes e i)

  depth_less : (e : Event) → a.next l.state ≡ e → in_atomic (a.blocks l.state) ≡ true → blocks_after e (a.blocks l.state) ≡ rest_of (a.blocks l.state)
      → Answers e Nothing → suc (atomics (a.blocks (a.after l.state Nothing))) ≡ atomics (a.blocks l.state)
  depth_less e i c g f = ap (λ z. suc (atomics z)) (blocks_by e i Nothing f ∙ g) ∙ rest_atomic (a.blocks l.state) c

  -- the machine is sound after the turn, and the turn is of this kind
  abbrev Right : (Clash → Choice) → Tx S → Turned S → Type 0
  Right answer tx r = Sound R a p r.machine × KindBy a p answer t m l tx r.kind

  either_right : (answer : Clash → Choice) (tx : Tx S) (b : Bool) (x y : Turned S) → (b ≡ true → Right answer tx x) → (b ≡ false → Right answer tx y)
      → Right answer tx (cond b x y)
  either_right answer tx true x y f g = f refl
  either_right answer tx false x y f g = g refl

  -- outside a transaction
  module _ (answer : Clash → Choice) (tx : l.tx ≡ NoTx) (f : (atomics (a.blocks l.state) ≡ 0) × ((x : ℕ) → l.held x ≡ false)) where
    goes_on : (m' : Machine S) (s' : S) (e : Bool) → m'.threads ≡ update m.threads t (Some (record l { state = s'; ended = e })) → m'.started ≡ m.started
        → m'.births ≡ m.births → R s' → atomics (a.blocks s') ≡ 0 → Sound R a p m'
    goes_on m' s' e threads started births reached depth =
        sound_change R a p m m' t l (record l { state = s'; ended = e }) h is threads (let b = births in omega (arith, b)) (λ i. inl (i, refl)) started
        (record {
          reached = reached;
          bounded = here.bounded;
          holds = here.holds;
          tx = subst (λ z. SoundTx R a p (record l { state = s'; ended = e }) z) (sym tx) (depth, f.1);
        })

    plainly : (m' : Machine S) (e : Event) (r : Reply) (b : Bool) → a.next l.state ≡ e → keeps_blocks e ≡ true → Answers e r
        → m'.threads ≡ update m.threads t (Some (record l { state = a.after l.state r; ended = b })) → m'.started ≡ m.started → m'.births ≡ m.births
        → Right answer NoTx (ran m')
    plainly m' e r b i c g threads started births = (
      goes_on m' (a.after l.state r) b threads started births (reached_by e i r g) (depth_by e i c r g ∙ f.0),
      tt,
    )

    still : (kind : TurnKind) (m' : Machine S) → m'.threads ≡ m.threads → m'.started ≡ m.started → m'.births ≡ m.births → KindOut a p t m l kind
        → Right answer NoTx (stays kind m')
    still kind m' threads started births k = (sound_same R a p m m' h threads started births, k)

    blocked : (e : Event) (store : Bool) (x u : ℕ) → a.next l.state ≡ e → Accesses p e store x → blocker t store x m ≡ Some u → KindOut a p t m l (Waited x u)
    blocked e store x u i g found = (store, (subst (λ z. Accesses p z store x) (sym i) g, found))

    load_right : (addr size : ℕ) (vol : Bool) → a.next l.state ≡ Load addr size vol → can_access p addr size ≡ true → (o : Option ℕ)
        → blocker t false (word_of addr) m ≡ o → Right answer NoTx (load_out a t m l addr size o)
    load_right addr size vol i ok (Some u) found = still (Waited (word_of addr) u) (waited t m (word_of addr) u).machine refl refl refl
        (blocked (Load addr size vol) false (word_of addr) u i (ok, refl, refl) found)
    load_right addr size vol i ok None found = plainly _ (Load addr size vol) (Loaded (read_at addr size (m.memory (word_of addr)))) l.ended i refl
        (read_fits addr size (m.memory (word_of addr))) refl refl refl

    store_right : (addr size value : ℕ) (vol : Bool) → a.next l.state ≡ Store addr size value vol → can_access p addr size ≡ true → (o : Option ℕ)
        → blocker t true (word_of addr) m ≡ o → Right answer NoTx (store_out a t m l addr size value o)
    store_right addr size value vol i ok (Some u) found = still (Waited (word_of addr) u) (waited t m (word_of addr) u).machine refl refl refl
        (blocked (Store addr size value vol) true (word_of addr) u i (ok, refl, refl) found)
    store_right addr size value vol i ok None found = plainly _ (Store addr size value vol) Nothing l.ended i refl refl refl refl refl

    join_right : (id : ℤ) → a.next l.state ≡ Join id → (o : Option (Local S)) → target t id m.threads ≡ o
        → Right answer NoTx (joins t id m (record l { state = a.after l.state Nothing }) o)
    join_right id i None found = still Ran (halts t m (Trapped BadJoin)).machine refl refl refl tt
    join_right id i (Some q) found = either_right answer NoTx q.ended _ _
        (λ e. plainly _ (Join id) Nothing l.ended i refl refl refl refl refl)
        (λ e. still (JoinWait (number_of id)) m refl refl refl (record { id = id; joins = i; number = refl; joined = q; there = found; runs = e }))

    begin_right : (kind : BlockKind) → a.next l.state ≡ BeginAtomic kind → (o : Option ℕ) → lock_owner t m.lock.holder ≡ o
        → Right answer NoTx (begins t m l (a.after l.state Nothing) o)
    begin_right kind i (Some u) found = still (BlockWait u) m refl refl refl (subst (λ z. Shut t m z u) (sym i) found)
    begin_right kind i None found =
        let s' = a.after l.state Nothing in
        let l' : Local S = record l { state = s'; tx = OpenTx m.births s' (no_save ∷ []) } in
        let r = reached_by (BeginAtomic kind) i Nothing refl in
        let d : atomics (a.blocks s') ≡ 1 = ap atomics (blocks_by (BeginAtomic kind) i Nothing refl) ∙ ap suc f.0 in (
          sound_change R a p m (record (steps t m l') { births = m.births + 1 }) t l l' h is refl (omega arith) (λ j. inr (refl, omega arith)) refl
              (record { reached = r; bounded = here.bounded; holds = here.holds; tx = ((r, d), d, refl) }),
          tt,
        )

    idle_right : a.next l.state ≡ BeginSync → lock_owner t m.lock.holder ≡ None → (o : Option ℕ) → busy t m ≡ o
        → Right answer NoTx (sync_idle t m (record l { state = a.after l.state Nothing }) o)
    idle_right i free (Some u) found = still (BlockWait u) m refl refl refl (subst (λ z. Shut t m z u) (sym i) (inr (free, found)))
    idle_right i free None found = plainly _ BeginSync Nothing l.ended i refl refl refl refl refl

    sync_right : a.next l.state ≡ BeginSync → (o : Option ℕ) → lock_owner t m.lock.holder ≡ o
        → Right answer NoTx (sync_in t m (record l { state = a.after l.state Nothing }) o)
    sync_right i (Some u) found = still (BlockWait u) m refl refl refl (subst (λ z. Shut t m z u) (sym i) (inl found))
    sync_right i None found = idle_right i found (busy t m) refl

    out_right : (e : Event) → a.next l.state ≡ e → Right answer NoTx (out_does a p t m l e)
    out_right Silent i = plainly _ Silent Nothing l.ended i refl refl refl refl refl
    out_right (Load addr size vol) i = either_right answer NoTx (can_access p addr size) _ _
        (λ ok. load_right addr size vol i ok (blocker t false (word_of addr) m) refl) (λ e. still Ran _ refl refl refl tt)
    out_right (Store addr size value vol) i = either_right answer NoTx (can_access p addr size) _ _
        (λ ok. store_right addr size value vol i ok (blocker t true (word_of addr) m) refl) (λ e. still Ran _ refl refl refl tt)
    out_right (BeginAtomic kind) i = begin_right kind i (lock_owner t m.lock.holder) refl
    out_right EndAtomic i = absurd (none_here (a.blocks l.state) f.0 (comes EndAtomic i))
    out_right (Raise kind can) i = absurd (none_here (a.blocks l.state) f.0 (kind_atomic kind (a.blocks l.state) (comes (Raise kind can) i)))
    out_right BeginSync i = sync_right i (lock_owner t m.lock.holder) refl
    out_right EndSync i = plainly _ EndSync Nothing l.ended i refl refl refl refl refl
    out_right (Spawn g x) i = either_right answer NoTx (nat_lt m.started p.limit) _ _
        (λ e.
        let n = m.started in
        let below = ltb-true n p.limit e in
        let int : n < 2 ^ 31 = omega (arith, below, small) in
        let c = a.child l.state n g x in
        let s' = a.after l.state (Id (pos n)) in
        let l' : Local S = record l { state = s' } in
        let m1 : Machine S = record m { started = n + 1; threads = update m.threads n (Some (bare c)) } in
        let apart : (t == n) ≡ false = not_true (t == n) (λ j. let q = ap m.threads (eqb-true t n j) in let r = h.fresh n (omega arith) in let k = is in
        absurd (cc)) in (
          sound_change R a p m1 (spawns t m l' c) t l l'
              (grown R a p m c h (laws.starts l.state n g x here.reached i) (laws.starts_free l.state n g x here.reached i))
              (update_elsewhere m.threads n (Some (bare c)) t apart ∙ is) refl (omega arith) (λ j. inl (j, refl)) refl
              (record {
                reached = reached_by (Spawn g x) i (Id (pos n)) int;
                bounded = here.bounded;
                holds = here.holds;
                tx = subst (λ z. SoundTx R a p l' z) (sym tx) (depth_by (Spawn g x) i refl (Id (pos n)) int ∙ f.0, f.1);
              }),
          tt,
        )) (λ e. still Ran _ refl refl refl tt)
    out_right (Join id) i = join_right id i (target t id m.threads) refl
    out_right (Out c) i = plainly _ (Out c) Nothing l.ended i refl refl refl refl refl
    out_right Inp i = plainly _ Inp (Byte (byte_of m.input)) l.ended i refl (byte_int m.input) refl refl refl
    out_right Done i = plainly _ Done Nothing true i refl refl refl refl refl
    out_right (Stop e) i = still Ran _ refl refl refl tt

  -- t holds no word
  none_held : (q : ℕ → Bool) → ((x : ℕ) → q x ≡ true → l.held x ≡ true) → least q (word_bound p) ≡ None → (x : ℕ) → q x ≡ false
  none_held q within e x = not_true (q x) (λ i. true≢false (sym i ∙ eldest_none q (λ v. v) (word_bound p) e x (here.bounded x (within x i))))

  -- a transaction whose outermost block has ended
  closed_sound : (m' : Machine S) (s' : S) (held wrote : ℕ → Bool) (b : ℕ) → has_tx l.tx ≡ true → birth l.tx ≡ b
      → ((x : ℕ) → held x ≡ true → l.held x ≡ true) → ((x : ℕ) → wrote x ≡ true → held x ≡ true) → R s' → atomics (a.blocks s') ≡ 0
      → (q : Option ℕ) → least held (word_bound p) ≡ q
      → m'.threads ≡ update m.threads t (Some (record l { state = s'; held = held; wrote = wrote; tx = closes b q })) → m'.started ≡ m.started
      → m'.births ≡ m.births → Sound R a p m'
  closed_sound m' s' held wrote b had same within holds reached depth None found threads started births =
      sound_change R a p m m' t l (record l { state = s'; held = held; wrote = wrote; tx = NoTx }) h is threads (let i = births in omega (arith, i))
      (λ i. absurd (false≢true i)) started (record {
        reached = reached;
        bounded = λ x i. here.bounded x (within x i);
        holds = holds;
        tx = (depth, none_held held within found);
      })
  closed_sound m' s' held wrote b had same within holds reached depth (Some x) found threads started births =
      sound_change R a p m m' t l (record l { state = s'; held = held; wrote = wrote; tx = Closing b }) h is threads (let i = births in omega (arith, i))
      (λ i. inl (had, sym same)) started (record {
        reached = reached;
        bounded = λ y i. here.bounded y (within y i);
        holds = holds;
        tx = (depth, (x, found));
      })

  -- the thread stands again just after its outermost BeginAtomic
  again_sound : (m' : Machine S) (b : ℕ) (kk : S) → has_tx l.tx ≡ true → birth l.tx ≡ b → IsKept R a kk → m'.threads ≡ update m.threads t (Some (again l b kk))
      → m'.started ≡ m.started → m'.births ≡ m.births → Sound R a p m'
  again_sound m' b kk had same kept threads started births =
      sound_change R a p m m' t l (again l b kk) h is threads (let i = births in omega (arith, i)) (λ i. inl (had, sym same)) started (record {
        reached = kept.0;
        bounded = λ x i. absurd (false≢true i);
        holds = λ x i. absurd (false≢true i);
        tx = (kept, kept.1, refl);
      })

  -- in an open transaction
  module _ (answer : Clash → Choice) (b : ℕ) (kk : S) (ss : List Save) (tx : l.tx ≡ OpenTx b kk ss)
      (f : IsKept R a kk × (atomics (a.blocks l.state) ≡ length ss) × (is_some_save ss ≡ true)) where
    within : (m' : Machine S) (s' : S) (ts : List Save) (held wrote : ℕ → Bool)
        → m'.threads ≡ update m.threads t (Some (record l { state = s'; held = held; wrote = wrote; tx = OpenTx b kk ts })) → m'.started ≡ m.started
        → m'.births ≡ m.births
        → R s' → atomics (a.blocks s') ≡ length ts → is_some_save ts ≡ true → ((x : ℕ) → held x ≡ true → x < word_bound p)
        → ((x : ℕ) → wrote x ≡ true → held x ≡ true) → Sound R a p m'
    within m' s' ts held wrote threads started births reached depth some bounded holds =
        sound_change R a p m m' t l (record l { state = s'; held = held; wrote = wrote; tx = OpenTx b kk ts }) h is threads
        (let i = births in omega (arith, i)) (λ i. inl (ap has_tx tx, sym (ap birth tx))) started (record {
          reached = reached;
          bounded = bounded;
          holds = holds;
          tx = (f.0, depth, some);
        })

    abbrev In : Turned S → Type 0
    In r = Sound R a p r.machine × KindIn a p answer t m l b ss r.kind

    either_in : (c : Bool) (x y : Turned S) → (c ≡ true → In x) → (c ≡ false → In y) → In (cond c x y)
    either_in true x y g j = g refl
    either_in false x y g j = j refl

    still_in : (m' : Machine S) → m'.threads ≡ m.threads → m'.started ≡ m.started → m'.births ≡ m.births → In (ran m')
    still_in m' threads started births = (sound_same R a p m m' h threads started births, tt)

    just : (e : Event) → a.next l.state ≡ e → keeps_blocks e ≡ true → Answers e Nothing
        → In (ran (steps t m (record l { state = a.after l.state Nothing; tx = OpenTx b kk ss })))
    just e i c g = (
      within _ (a.after l.state Nothing) ss l.held l.wrote refl refl refl (reached_by e i Nothing g)
          (depth_by e i c Nothing g ∙ f.1) f.2 here.bounded here.holds,
      tt,
    )

    taken_bounded : (addr size : ℕ) → can_access p addr size ≡ true → (y : ℕ) → update l.held (word_of addr) true y ≡ true → y < word_bound p
    taken_bounded addr size ok y h = elim (y == word_of addr) as (λ q. (y == word_of addr) ≡ q → cond q true (l.held y) ≡ true → y < word_bound p) [
      | true ↦ λ i j. subst (λ v. v < word_bound p) (sym (eqb-true y (word_of addr) i)) (access_below p addr size ok)
      | false ↦ λ i j. here.bounded y j
    ] refl h

    note_length : (ts : List Save) (x v : ℕ) → length (note ts x v) ≡ length ts
    note_length [] x v = refl
    note_length (n ∷ ts) x v = refl

    note_some : (ts : List Save) (x v : ℕ) → is_some_save ts ≡ true → is_some_save (note ts x v) ≡ true
    note_some [] x v e = e
    note_some (n ∷ ts) x v e = refl

    -- an access that thread u blocks, as the policy chooses
    gives_right : (q : Option ℕ) → least l.held (word_bound p) ≡ q → Sound R a p (steps t m (gives_up l b kk ss q))
    gives_right None e = again_sound (steps t m (again l b kk)) b kk (ap has_tx tx) (ap birth tx) f.0 refl refl refl
    gives_right (Some y) e = sound_change R a p m (steps t m (record l { tx = GivingUp b kk ss })) t l (record l { tx = GivingUp b kk ss }) h is refl
        (omega arith) (λ i. inl (ap has_tx tx, sym (ap birth tx))) refl
        (record { reached = here.reached; bounded = here.bounded; holds = here.holds; tx = (f.0, (y, e)) })

    clash_right : (e : Event) (store : Bool) (x u : ℕ) → a.next l.state ≡ e → Accesses p e store x → blocker t store x m ≡ Some u → (choice : Choice)
        → answer (clash_of t store x m b u) ≡ choice → In (clashes p choice t m l b kk ss x u)
    clash_right e store x u i g found Wait said = (sound_same R a p m _ h refl refl refl, (store, (subst (λ z. Accesses p z store x) (sym i) g, found), said))
    clash_right e store x u i g found Yield said = (
      gives_right (least l.held (word_bound p)) refl,
      (store, (subst (λ z. Accesses p z store x) (sym i) g, found), said),
    )

    load_in_right : (addr size : ℕ) (vol : Bool) → a.next l.state ≡ Load addr size vol → can_access p addr size ≡ true → (o : Option ℕ)
        → blocker t false (word_of addr) m ≡ o → In (load_in a p answer t m l b kk ss addr size o)
    load_in_right addr size vol i ok (Some u) e = clash_right (Load addr size vol) false (word_of addr) u i (ok, refl, refl) e
        (answer (clash_of t false (word_of addr) m b u)) refl
    load_in_right addr size vol i ok None e =
        let r = Loaded (read_at addr size (m.memory (word_of addr))) in
        let g = read_fits addr size (m.memory (word_of addr)) in (
          within _ (a.after l.state r) ss (update l.held (word_of addr) true) l.wrote refl refl refl (reached_by (Load addr size vol) i r g)
              (depth_by (Load addr size vol) i refl r g ∙ f.1) f.2 (taken_bounded addr size ok) (λ y j. update_true l.held (word_of addr) y (here.holds y j)),
          tt,
        )

    store_in_right : (addr size value : ℕ) (vol : Bool) → a.next l.state ≡ Store addr size value vol → can_access p addr size ≡ true → (o : Option ℕ)
        → blocker t true (word_of addr) m ≡ o → In (store_in a p answer t m l b kk ss addr size value o)
    store_in_right addr size value vol i ok (Some u) e = clash_right (Store addr size value vol) true (word_of addr) u i (ok, refl, refl) e
        (answer (clash_of t true (word_of addr) m b u)) refl
    store_in_right addr size value vol i ok None e =
        let x = word_of addr in
        let v = m.memory x in (
          within _ (a.after l.state Nothing) (note ss x v) (update l.held x true) (update l.wrote x true) refl refl refl
              (reached_by (Store addr size value vol) i Nothing refl)
              (depth_by (Store addr size value vol) i refl Nothing refl ∙ (f.1 ∙ sym (note_length ss x v))) (note_some ss x v f.2) (taken_bounded addr size ok)
              (λ y j. elim (y == x) as (λ q. cond q true (l.wrote y) ≡ true → cond q true (l.held y) ≡ true) [
                | true ↦ λ k. refl
                | false ↦ λ k. here.holds y k
              ] j),
          tt,
        )

    outermost_right : (s' : S) → R s' → atomics (a.blocks s') ≡ 0 → In (outermost p t m l s' b)
    outermost_right s' reached depth = (
      closed_sound _ s' l.held l.wrote b (ap has_tx tx) (ap birth tx) (λ x i. i) here.holds reached depth (least l.held (word_bound p)) refl refl refl refl,
      tt,
    )

    less_one : (c d : ℕ) → suc c ≡ d → d ≡ suc zero → c ≡ zero
    less_one c d e g = omega (arith, e, g)

    less_more : (c d n : ℕ) → suc c ≡ d → d ≡ suc n → c ≡ n
    less_more c d n e g = omega (arith, e, g)

    commits_right : (s' : S) → R s' → suc (atomics (a.blocks s')) ≡ atomics (a.blocks l.state) → (ts : List Save) → ss ≡ ts → In (commits p t m l s' b kk ts)
    commits_right s' reached depth [] e = absurd (false≢true (ap is_some_save (sym e) ∙ f.2))
    commits_right s' reached depth (n ∷ []) e = outermost_right s' reached (less_one _ _ depth (f.1 ∙ ap length e))
    commits_right s' reached depth (n ∷ o ∷ ts) e =
        (within _ s' (hand n o ∷ ts) l.held l.wrote refl refl refl reached (less_more _ _ _ depth (f.1 ∙ ap length e)) refl here.bounded here.holds, tt)

    cancels_right : (s' : S) → R s' → a.next l.state ≡ Raise Cancel true → suc (atomics (a.blocks s')) ≡ atomics (a.blocks l.state)
        → (n : Save) (ts : List Save) → ss ≡ (n ∷ ts) → (o : Option ℕ) → least (is_noted n) (word_bound p) ≡ o → In (cancels_by p t m l s' b kk n ts o)
    cancels_right s' reached is depth n ts e (Some x) found = (
      within _ l.state (forget n x ∷ ts) l.held l.wrote refl refl refl here.reached (f.1 ∙ ap length e) refl here.bounded here.holds,
      (is, subst (λ z. NewestNotes p z x) (sym e) found),
    )
    cancels_right s' reached is depth n [] e None found = outermost_right s' reached (less_one _ _ depth (f.1 ∙ ap length e))
    cancels_right s' reached is depth n (o ∷ ts) e None found =
        (within _ s' (o ∷ ts) l.held l.wrote refl refl refl reached (less_more _ _ _ depth (f.1 ∙ ap length e)) refl here.bounded here.holds, tt)

    raises_right : (kind : BlockKind) (can : Bool) → a.next l.state ≡ Raise kind can → In (raises p t m l (a.after l.state Nothing) b kk ss kind can)
    raises_right kind can i = by_kind kind can i (reached_by (Raise kind can) i Nothing refl)
        (depth_less (Raise kind can) i (kind_atomic kind (a.blocks l.state) (comes (Raise kind can) i)) refl refl)
      where
        by_saves : a.next l.state ≡ Raise Cancel true → R (a.after l.state Nothing)
            → suc (atomics (a.blocks (a.after l.state Nothing))) ≡ atomics (a.blocks l.state) → (ts : List Save) → ss ≡ ts
            → In (cancels p t m l (a.after l.state Nothing) b kk ts)
        by_saves j r d [] e = absurd (false≢true (ap is_some_save (sym e) ∙ f.2))
        by_saves j r d (n ∷ ts) e = cancels_right (a.after l.state Nothing) r j d n ts e (least (is_noted n) (word_bound p)) refl

        by_kind : (kind : BlockKind) (can : Bool) → a.next l.state ≡ Raise kind can → R (a.after l.state Nothing)
            → suc (atomics (a.blocks (a.after l.state Nothing))) ≡ atomics (a.blocks l.state) → In (raises p t m l (a.after l.state Nothing) b kk ss kind can)
        by_kind NoExcept can j r d = still_in _ refl refl refl
        by_kind Commit can j r d = commits_right (a.after l.state Nothing) r d ss refl
        by_kind Cancel true j r d = by_saves j r d ss refl
        by_kind Cancel false j r d = still_in _ refl refl refl

    never : (e : Event) → a.next l.state ≡ e → (may_come e (a.blocks l.state) ≡ true → no_atomic (a.blocks l.state) ≡ true) → ⊥
    never e i g = by_saves ss (sym f.1 ∙ none_atomic (a.blocks l.state) (g (comes e i))) f.2
      where
        by_saves : (ts : List Save) → length ts ≡ 0 → is_some_save ts ≡ true → ⊥
        by_saves [] j k = false≢true k
        by_saves (n ∷ ts) j k = omega (arith, j)

    in_right : (e : Event) → a.next l.state ≡ e → In (in_does a p answer t m l b kk ss e)
    in_right Silent i = just Silent i refl refl
    in_right (Load addr size vol) i = either_in (can_access p addr size) _ _ (λ ok. load_in_right addr size vol i ok (blocker t false (word_of addr) m) refl)
        (λ no. still_in _ refl refl refl)
    in_right (Store addr size value vol) i = either_in (can_access p addr size) _ _
        (λ ok. store_in_right addr size value vol i ok (blocker t true (word_of addr) m) refl) (λ no. still_in _ refl refl refl)
    in_right (BeginAtomic kind) i = (
      within _ (a.after l.state Nothing) (no_save ∷ ss) l.held l.wrote refl refl refl (reached_by (BeginAtomic kind) i Nothing refl)
          (ap atomics (blocks_by (BeginAtomic kind) i Nothing refl) ∙ ap suc f.1) refl here.bounded here.holds,
      tt,
    )
    in_right EndAtomic i = commits_right (a.after l.state Nothing) (reached_by EndAtomic i Nothing refl)
        (depth_less EndAtomic i (comes EndAtomic i) refl refl) ss refl
    in_right (Raise kind can) i = raises_right kind can i
    in_right BeginSync i = just BeginSync i refl refl
    in_right EndSync i = just EndSync i refl refl
    in_right (Stop e) i = still_in _ refl refl refl
    in_right (Spawn g x) i = absurd (never (Spawn g x) i (λ c. c))
    in_right (Join id) i = absurd (never (Join id) i (λ c. c))
    in_right (Out c) i = absurd (never (Out c) i (λ d. d))
    in_right Inp i = absurd (never Inp i (λ c. c))
    in_right Done i = absurd (never Done i (empty_none (a.blocks l.state)))

  back_right : (answer : Clash → Choice) (b : ℕ) (kk : S) (ss : List Save) → l.tx ≡ GivingUp b kk ss → SoundTx R a p l (GivingUp b kk ss)
      → Right answer (GivingUp b kk ss) (gives_back p t m l b kk ss (least l.held (word_bound p)))
  back_right answer b kk ss tx f =
      let x = f.1.0 in
      subst (λ o. Right answer (GivingUp b kk ss) (gives_back p t m l b kk ss o)) (sym f.1.1) (rest (least (without l.held x) (word_bound p)) refl, f.1.1)
    where
      kept_of : (h : ℕ → Bool) (x y : ℕ) → without h x y ≡ true → h y ≡ true
      kept_of h x y i = elim (y == x) as (λ q. cond q false (h y) ≡ true → h y ≡ true) [ true ↦ λ j. absurd (false≢true j) | false ↦ λ j. j ] i

      rest : (o : Option ℕ) → least (without l.held f.1.0) (word_bound p) ≡ o
          → Sound R a p (record (steps t m (given_back l b kk ss f.1.0 o)) { memory = update m.memory f.1.0 (kept_or (oldest ss f.1.0) (m.memory f.1.0)) })
      rest None e = again_sound _ b kk (ap has_tx tx) (ap birth tx) f.0 refl refl refl
      rest (Some y) e = sound_change R a p m _ t l
          (record l { held = without l.held f.1.0; wrote = without l.wrote f.1.0; tx = GivingUp b kk (forget_all ss f.1.0) }) h is refl (omega arith)
          (λ i. inl (ap has_tx tx, sym (ap birth tx))) refl
          (record {
            reached = here.reached;
            bounded = λ z i. here.bounded z (kept_of l.held f.1.0 z i);
            holds = λ z i. elim (z == f.1.0) as (λ q. cond q false (l.wrote z) ≡ true → cond q false (l.held z) ≡ true) [
              | true ↦ λ j. j
              | false ↦ λ j. here.holds z j
            ] i;
            tx = (f.0, (y, e));
          })

  go_right : (answer : Clash → Choice) (b : ℕ) → l.tx ≡ Closing b → SoundTx R a p l (Closing b)
      → Right answer (Closing b) (lets_go p t m l b (least l.held (word_bound p)))
  go_right answer b tx f =
      let x = f.1.0 in
      subst (λ o. Right answer (Closing b) (lets_go p t m l b o)) (sym f.1.1) (
        closed_sound _ l.state (without l.held x) (without l.wrote x) b (ap has_tx tx) (ap birth tx) (kept_of x)
            (λ z i. elim (z == x) as (λ q. cond q false (l.wrote z) ≡ true → cond q false (l.held z) ≡ true) [
              | true ↦ λ j. j
              | false ↦ λ j. here.holds z j
            ] i) here.reached f.0 (least (without l.held x) (word_bound p)) refl refl refl refl,
        f.1.1,
      )
    where
      kept_of : (x y : ℕ) → without l.held x y ≡ true → l.held y ≡ true
      kept_of x y i = elim (y == x) as (λ q. cond q false (l.held y) ≡ true → l.held y ≡ true) [ true ↦ λ j. absurd (false≢true j) | false ↦ λ j. j ] i

  pub tx_right : (answer : Clash → Choice) (tx : Tx S) → l.tx ≡ tx → SoundTx R a p l tx → Right answer tx (turn_in a p answer t m l tx)
  tx_right answer NoTx e f = out_right answer e f (a.next l.state) refl
  tx_right answer (OpenTx b kk ss) e f = in_right answer b kk ss e f (a.next l.state) refl
  tx_right answer (GivingUp b kk ss) e f = back_right answer b kk ss e f
  tx_right answer (Closing b) e f = go_right answer b e f

module _ {S : Type 0} (R : S → Type 0) (a : Thread S) (laws : Lawful S R a) (p : MemoryLayout) (small : p.limit ≤ THREAD_LIMIT) where
  -- the kind of the turn of a thread that goes on
  pub kind_right : (answer : Clash → Choice) (t : ℕ) (m : Machine S) (l : Local S) → Sound R a p m → m.threads t ≡ Some l
      → Sound R a p (turn_in a p answer t m l l.tx).machine × KindBy a p answer t m l l.tx (turn_in a p answer t m l l.tx).kind
  kind_right answer t m l h is = let here = subst (SoundThread R a p) is (h.threads t) in tx_right R a laws p small t m l h is here answer l.tx refl here.tx

  sound_thread : (answer : Clash → Choice) (t : ℕ) (m : Machine S) → Sound R a p m → (o : Option (Local S)) → m.threads t ≡ o
      → Sound R a p (turn_of a p answer t m o).machine
  sound_thread answer t m h None e = h
  sound_thread answer t m h (Some l) e = elim l.ended as (λ c. Sound R a p (cond c (stays Idle m) (turn_in a p answer t m l l.tx)).machine) [
    | true ↦ h
    | false ↦ (kind_right answer t m l h e).0
  ]

  sound_end : (answer : Clash → Choice) (t : ℕ) (m : Machine S) → Sound R a p m → (o : Option End) → Sound R a p (turn_at a p answer t m o).machine
  sound_end answer t m h None = sound_thread answer t m h (m.threads t) refl
  sound_end answer t m h (Some e) = h

  pub turn_sound : (answer : Clash → Choice) (t : ℕ) (m : Machine S) → Sound R a p m → Sound R a p (turn a p answer t m).machine
  turn_sound answer t m h = sound_end answer t m h m.end

  pub turns_sound : (qs : List Slot) (m : Machine S) → Sound R a p m → Sound R a p (turns a p qs m)
  turns_sound [] m h = h
  turns_sound (q ∷ qs) m h = turns_sound qs (turn a p q.answer q.thread m).machine (turn_sound q.answer q.thread m h)

  pub start_sound : (memory : ℕ → ℕ) (input : List ℕ) (main : S) → R main → a.blocks main ≡ [] → Sound R a p (first_machine memory input main)
  start_sound memory input main reached none = record {
    threads = first_sound;
    fresh = first_none;
    drawn = λ u i. absurd (true≢false (sym i ∙ no_tx u));
    distinct = λ v u d i j k. true≢false (sym i ∙ no_tx v);
  } where
    first_sound : (u : ℕ) → SoundThread R a p (first_thread main u)
    first_sound zero = record {
      reached = reached;
      bounded = λ x i. absurd (false≢true i);
      holds = λ x i. absurd (false≢true i);
      tx = (ap atomics none, λ x. refl);
    }
    first_sound (suc u) = tt

    first_none : (u : ℕ) → 1 ≤ u → first_thread main u ≡ None
    first_none zero i = absurd (omega (arith, i))
    first_none (suc u) i = refl

    no_tx : (u : ℕ) → tx_in (first_thread main u) ≡ false
    no_tx zero = refl
    no_tx (suc u) = refl

  pub kind_of_turn : (answer : Clash → Choice) (t : ℕ) (m : Machine S) (l : Local S) → Sound R a p m → GoesOn t m l
      → KindBy a p answer t m l l.tx (turn a p answer t m).kind
  kind_of_turn answer t m l h g =
      subst (λ o. KindBy a p answer t m l l.tx (turn_at a p answer t m o).kind) (sym g.going)
      (subst (λ o. KindBy a p answer t m l l.tx (turn_of a p answer t m o).kind) (sym g.is)
      (subst (λ c. KindBy a p answer t m l l.tx (cond c (stays Idle m) (turn_in a p answer t m l l.tx)).kind) (sym g.up) (kind_right answer t m l h g.is).1))
