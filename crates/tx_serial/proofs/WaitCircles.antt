-- Under the rule of the older there is no circle of waits.
use Rattle.std.proofs.Common.{ℕ, ◌≡◌, ◌==◌, ◌<◌, ◌≤◌, inl, inr, Bool, true, false, cond, refl, ap, sym, ◌∙◌, subst, List, Option, Some, None, arith}
use Rattle.std.specs.Prelude.{not, ◌≢◌, ◌&&◌, nat_lt, if◌then◌else◌}
use Rattle.std.proofs.lemmas.Bool.{true≢false, false≢true, cases_lt, ltb-true, ltb-false}
use Rattle.choosers.specs.declared.Clash.{Clash}
use Rattle.choosers.specs.declared.Choice.{Choice}
use Rattle.choosers.specs.declared.Choice.TheVariants.{Wait, Yield}
use Rattle.choosers.specs.Answers.{is_older, answer, Older}
use Rattle.tx_events.specs.declared.TheConstants.{THREAD_LIMIT}
use Rattle.tx_events.specs.declared.End.{End}
use Rattle.tx_events.specs.declared.Event.{Event}
use Rattle.tx_events.specs.declared.Event.TheVariants.{
  Silent,
  Load,
  Store,
  Out,
  Inp,
  Spawn,
  Join,
  BeginAtomic,
  EndAtomic,
  Raise,
  BeginSync,
  EndSync,
  Done,
  Stop,
}
use Rattle.tx_events.specs.declared.TurnKind.TheVariants.{Waited, Rolled, Idle}
use Rattle.tx_events.specs.Thread.{Thread, Lawful}
use Rattle.tx_events.specs.Memory.{MemoryLayout}
use Rattle.tx_serial.specs.Machine.{
  Machine,
  Local,
  Tx,
  NoTx,
  OpenTx,
  GivingUp,
  Closing,
  Save,
  held_by,
  wrote_by,
  has_tx,
  tx_in,
  birth,
  birth_of,
  conflicts_with,
  blocker,
  clash_of,
}
use Rattle.tx_serial.specs.Turn.{stays, turn, turn_at, turn_of, turn_in}
use Rattle.tx_serial.specs.Sound.{SoundTx, SoundThread, Sound}
use Rattle.tx_serial.specs.Kinds.{Accesses, KindIn, KindBy, GoesOn, Asked, is_idle}
use Rattle.tx_serial.specs.Circle.{AnswersAt, AnswersBy, IsEldest, IsYoungest, Blocks, WaitsFor, WaitsOn, direct, along}
use Rattle.tx_serial.proofs.SearchLemmas.{eldest_some, eldest_le}
use Rattle.tx_serial.proofs.SoundKept.{kind_of_turn}

-- parts of what keeps a thread off

keeps_other : {S : Type 0} (t : ℕ) (store : Bool) (x : ℕ) (threads : ℕ → Option (Local S)) (u : ℕ) → conflicts_with t store x threads u ≡ true
    → (u == t) ≡ false
keeps_other t store x threads u h = elim (u == t) as
    (λ b. (not b && cond store (held_by (threads u) x) (wrote_by (threads u) x)) ≡ true → b ≡ false) [
      | true ↦ λ i. absurd (false≢true i)
      | false ↦ λ i. refl
    ] h

keeps_word : {S : Type 0} (t : ℕ) (store : Bool) (x : ℕ) (threads : ℕ → Option (Local S)) (u : ℕ) → conflicts_with t store x threads u ≡ true
    → cond store (held_by (threads u) x) (wrote_by (threads u) x) ≡ true
keeps_word t store x threads u h = elim (u == t) as
    (λ b. (not b && cond store (held_by (threads u) x) (wrote_by (threads u) x)) ≡ true
    → cond store (held_by (threads u) x) (wrote_by (threads u) x) ≡ true) [ true ↦ λ i. absurd (false≢true i) | false ↦ λ i. i ] h

-- an event accesses in one way
same_store : (p : MemoryLayout) (e : Event) (s r : Bool) (x y : ℕ) → Accesses p e s x → Accesses p e r y → s ≡ r
same_store p (Load addr size vol) s r x y f g = f.1 ∙ sym g.1
same_store p (Store addr size value vol) s r x y f g = f.1 ∙ sym g.1
same_store p Silent s r x y f g = absurd f
same_store p (Out c) s r x y f g = absurd f
same_store p Inp s r x y f g = absurd f
same_store p (Spawn h arg) s r x y f g = absurd f
same_store p (Join id) s r x y f g = absurd f
same_store p (BeginAtomic kind) s r x y f g = absurd f
same_store p EndAtomic s r x y f g = absurd f
same_store p (Raise kind can) s r x y f g = absurd f
same_store p BeginSync s r x y f g = absurd f
same_store p EndSync s r x y f g = absurd f
same_store p Done s r x y f g = absurd f
same_store p (Stop e) s r x y f g = absurd f

same_word : (p : MemoryLayout) (e : Event) (s r : Bool) (x y : ℕ) → Accesses p e s x → Accesses p e r y → x ≡ y
same_word p (Load addr size vol) s r x y f g = f.2 ∙ sym g.2
same_word p (Store addr size value vol) s r x y f g = f.2 ∙ sym g.2
same_word p Silent s r x y f g = absurd f
same_word p (Out c) s r x y f g = absurd f
same_word p Inp s r x y f g = absurd f
same_word p (Spawn h arg) s r x y f g = absurd f
same_word p (Join id) s r x y f g = absurd f
same_word p (BeginAtomic kind) s r x y f g = absurd f
same_word p EndAtomic s r x y f g = absurd f
same_word p (Raise kind can) s r x y f g = absurd f
same_word p BeginSync s r x y f g = absurd f
same_word p EndSync s r x y f g = absurd f
same_word p Done s r x y f g = absurd f
same_word p (Stop e) s r x y f g = absurd f

module _ {S : Type 0} (R : S → Type 0) (a : Thread S) (p : MemoryLayout) (m : Machine S) (h : Sound R a p m) where
  -- who holds a word has a transaction
  tx_of : (q : Local S) (x : ℕ) (z : Tx S) → SoundTx R a p q z → q.held x ≡ true → has_tx z ≡ true
  tx_of q x NoTx g j = absurd (true≢false (sym j ∙ g.1 x))
  tx_of q x (OpenTx c k ts) g j = refl
  tx_of q x (GivingUp c k ts) g j = refl
  tx_of q x (Closing c) g j = refl

  holds_tx : (o : Option (Local S)) (x : ℕ) (store : Bool) → SoundThread R a p o → cond store (held_by o x) (wrote_by o x) ≡ true → tx_in o ≡ true
  holds_tx None x true g i = absurd (false≢true i)
  holds_tx None x false g i = absurd (false≢true i)
  holds_tx (Some q) x true g i = tx_of q x q.tx g.tx i
  holds_tx (Some q) x false g i = tx_of q x q.tx g.tx (g.holds x i)

  -- who keeps another off has a transaction, and was started
  pub off_tx : (t u x : ℕ) (store : Bool) → conflicts_with t store x m.threads u ≡ true → tx_in (m.threads u) ≡ true
  off_tx t u x store off = holds_tx (m.threads u) x store (h.threads u) (keeps_word t store x m.threads u off)

  off_started : (t u x : ℕ) (store : Bool) → conflicts_with t store x m.threads u ≡ true → u < m.started
  off_started t u x store off = elim (cases_lt u m.started) as (λ z. u < m.started) [
    | inl i ↦ i
    | inr i ↦ let n = h.fresh u i in absurd (true≢false (sym (off_tx t u x store off) ∙ ap tx_in n))
  ]

  -- the blocking thread whose birth is least
  found_le : (t x u v : ℕ) (store : Bool) → blocker t store x m ≡ Some u → conflicts_with t store x m.threads v ≡ true
      → birth_of (m.threads u) ≤ birth_of (m.threads v)
  found_le t x u v store found off = eldest_le (conflicts_with t store x m.threads) (λ z. birth_of (m.threads z)) m.started u found v
      (off_started t v x store off) off

  found_off : (t x u : ℕ) (store : Bool) → blocker t store x m ≡ Some u → conflicts_with t store x m.threads u ≡ true
  found_off t x u store found = eldest_some (conflicts_with t store x m.threads) (λ v. birth_of (m.threads v)) m.started u found

  module _ (laws : Lawful S R a) (small : p.limit ≤ THREAD_LIMIT) (answer : Clash → Choice) where
    waits_less : (c : Clash) (choice : Choice) → is_older c choice ≡ true → choice ≡ Wait → c.mine < c.least
    waits_less c Wait k e = ltb-true c.mine c.least k
    waits_less c Yield k e = absurd (cc)

    not_less : (b : Bool) → not b ≡ true → b ≡ false
    not_less true e = absurd (false≢true e)
    not_less false e = refl

    yields_more : (c : Clash) (choice : Choice) → is_older c choice ≡ true → choice ≡ Yield → c.least ≤ c.mine
    yields_more c Yield k e = ltb-false c.mine c.least (not_less (nat_lt c.mine c.least) k)
    yields_more c Wait k e = absurd (cc)

    -- thread t goes on in an open transaction
    module _ (t : ℕ) (rule : AnswersAt is_older a p t answer m) (l : Local S) (goes : GoesOn t m l) (b : ℕ) (k : S) (ss : List Save)
        (tx : l.tx ≡ OpenTx b k ss) where
      own_birth : birth_of (m.threads t) ≡ b
      own_birth = ap birth_of goes.is ∙ ap birth tx

      own_tx : tx_in (m.threads t) ≡ true
      own_tx = ap tx_in goes.is ∙ ap has_tx tx

      asked_at : (store : Bool) (x u : ℕ) → Accesses p (a.next l.state) store x → blocker t store x m ≡ Some u → Asked a p t m (clash_of t store x m b u)
      asked_at store x u g found = record {
        local = l;
        goes = goes;
        birth = b;
        kept = k;
        saves = ss;
        tx = tx;
        store = store;
        word = x;
        holder = u;
        blocked = (g, found);
        is = refl;
      }

      -- a Waited turn: its birth is less than that of every blocking transaction
      waited_less : (x u : ℕ) → KindIn a p answer t m l b ss (Waited x u) → (v : ℕ) → Blocks a p m t v x → b < birth_of (m.threads v)
      waited_less x u kind v g =
          let same : g.local ≡ l = one_local (sym g.goes.is ∙ goes.is) in
          let store : kind.0 ≡ g.store = same_store p (a.next l.state) kind.0 g.store x x kind.1.0
          (subst (λ z. Accesses p (a.next z.state) g.store x) same g.access) in
          let off = subst (λ z. conflicts_with t z x m.threads v ≡ true) (sym store) g.off in
          let c = clash_of t kind.0 x m b u in
          let less = waits_less c (answer c) (rule c (asked_at kind.0 x u kind.1.0 kind.1.1)) kind.2 in
          let le = found_le t x u v kind.0 kind.1.1 off in
          omega (arith, less, le)
        where
          one_local : {q r : Local S} → Some q ≡ Some r → q ≡ r
          one_local e = cc

      -- a Rolled turn: it is greater than that of some blocking transaction
      rolled_more : (x u : ℕ) → KindIn a p answer t m l b ss (Rolled x u) → birth_of (m.threads u) < b
      rolled_more x u kind =
          let c = clash_of t kind.0 x m b u in
          let le = yields_more c (answer c) (rule c (asked_at kind.0 x u kind.1.0 kind.1.1)) kind.2 in
          let off = found_off t x u kind.0 kind.1.1 in
          let apart : birth_of (m.threads u) ≢ b = λ q. h.distinct t u (keeps_other t kind.0 x m.threads u off) own_tx (off_tx t u x kind.0 off)
          (own_birth ∙ sym q) in
          omega (arith, le, apart)

    -- a thread that goes on, and takes a Waited or a Rolled turn in a transaction, has an open one
    module _ (t : ℕ) (rule : AnswersAt is_older a p t answer m) (l : Local S) (goes : GoesOn t m l) where
      kind_is : KindBy a p answer t m l l.tx (turn a p answer t m).kind
      kind_is = kind_of_turn R a laws p small answer t m l h goes

      waited_open : (x u : ℕ) → (turn a p answer t m).kind ≡ Waited x u → (tx : Tx S) → l.tx ≡ tx → has_tx tx ≡ true → (v : ℕ) → Blocks a p m t v x
          → birth_of (m.threads t) < birth_of (m.threads v)
      waited_open x u is NoTx e i v g = absurd (false≢true i)
      waited_open x u is (GivingUp b k ss) e i v g = absurd
          (subst (λ z. KindBy a p answer t m l (GivingUp b k ss) z) is (subst (λ z. KindBy a p answer t m l z (turn a p answer t m).kind) e kind_is))
      waited_open x u is (Closing b) e i v g = absurd
          (subst (λ z. KindBy a p answer t m l (Closing b) z) is (subst (λ z. KindBy a p answer t m l z (turn a p answer t m).kind) e kind_is))
      waited_open x u is (OpenTx b k ss) e i v g =
          let less = waited_less t rule l goes b k ss e x u
          (subst (λ z. KindBy a p answer t m l (OpenTx b k ss) z) is (subst (λ z. KindBy a p answer t m l z (turn a p answer t m).kind) e kind_is)) v g in
          subst (λ z. z < birth_of (m.threads v)) (sym (own_birth t rule l goes b k ss e)) less

      pub waited_tx : (x u : ℕ) → (turn a p answer t m).kind ≡ Waited x u → tx_in (m.threads t) ≡ true → (v : ℕ) → Blocks a p m t v x
          → birth_of (m.threads t) < birth_of (m.threads v)
      waited_tx x u is i = waited_open x u is l.tx refl (sym (ap tx_in goes.is) ∙ i)

      rolled_open : (x u : ℕ) → (turn a p answer t m).kind ≡ Rolled x u → (tx : Tx S) → l.tx ≡ tx
          → (birth_of (m.threads u) < birth_of (m.threads t)) × (tx_in (m.threads t) ≡ true) × Blocks a p m t u x
      rolled_open x u is NoTx e = absurd
          (subst (λ z. KindBy a p answer t m l NoTx z) is (subst (λ z. KindBy a p answer t m l z (turn a p answer t m).kind) e kind_is))
      rolled_open x u is (GivingUp b k ss) e = absurd
          (subst (λ z. KindBy a p answer t m l (GivingUp b k ss) z) is (subst (λ z. KindBy a p answer t m l z (turn a p answer t m).kind) e kind_is))
      rolled_open x u is (Closing b) e = absurd
          (subst (λ z. KindBy a p answer t m l (Closing b) z) is (subst (λ z. KindBy a p answer t m l z (turn a p answer t m).kind) e kind_is))
      rolled_open x u is (OpenTx b k ss) e =
          let kind = subst (λ z. KindBy a p answer t m l (OpenTx b k ss) z) is
          (subst (λ z. KindBy a p answer t m l z (turn a p answer t m).kind) e kind_is) in (
            subst (λ z. birth_of (m.threads u) < z) (sym (own_birth t rule l goes b k ss e)) (rolled_more t rule l goes b k ss e x u kind),
            own_tx t rule l goes b k ss e,
            record { local = l; goes = goes; store = kind.0; access = kind.1.0; off = found_off t x u kind.0 kind.1.1 },
          )

      pub rolled_tx : (x u : ℕ) → (turn a p answer t m).kind ≡ Rolled x u
          → (birth_of (m.threads u) < birth_of (m.threads t)) × (tx_in (m.threads t) ≡ true) × Blocks a p m t u x
      rolled_tx x u is = rolled_open x u is l.tx refl

    -- a Waited or Rolled turn is that of a thread that goes on
    went_on : (t : ℕ) → is_idle (turn a p answer t m).kind ≡ false → (l : Local S) × GoesOn t m l
    went_on t awake = by_end m.end refl awake
      where
        by_up : (l : Local S) → m.end ≡ None → m.threads t ≡ Some l → (up : Bool) → l.ended ≡ up
            → is_idle (cond up (stays Idle m) (turn_in a p answer t m l l.tx)).kind ≡ false → (q : Local S) × GoesOn t m q
        by_up l e i true j k = absurd (true≢false k)
        by_up l e i false j k = (l, record { going = e; is = i; up = j })

        by_thread : m.end ≡ None → (o : Option (Local S)) → m.threads t ≡ o → is_idle (turn_of a p answer t m o).kind ≡ false → (q : Local S) × GoesOn t m q
        by_thread e None i k = absurd (true≢false k)
        by_thread e (Some l) i k = by_up l e i l.ended refl k

        by_end : (o : Option End) → m.end ≡ o → is_idle (turn_at a p answer t m o).kind ≡ false → (q : Local S) × GoesOn t m q
        by_end (Some e) i k = absurd (true≢false k)
        by_end None i k = by_thread i (m.threads t) refl k

    -- the two sentences on every turn

    pub rolled_by : (t : ℕ) → AnswersAt is_older a p t answer m → (x u : ℕ) → (turn a p answer t m).kind ≡ Rolled x u
        → Blocks a p m t u x × (birth_of (m.threads u) < birth_of (m.threads t))
    rolled_by t rule x u is = let q = went_on t (ap is_idle is) in let r = rolled_tx t rule q.0 q.1 x u is in (r.2, r.0)

    pub waited_by : (t : ℕ) → AnswersAt is_older a p t answer m → (x u : ℕ) → tx_in (m.threads t) ≡ true → (turn a p answer t m).kind ≡ Waited x u → (v : ℕ)
        → Blocks a p m t v x → birth_of (m.threads t) < birth_of (m.threads v)
    waited_by t rule x u i is = let q = went_on t (ap is_idle is) in waited_tx t rule q.0 q.1 x u is i

    -- the transaction with the least birth never takes a Rolled turn
    pub eldest_stays : (t : ℕ) → AnswersAt is_older a p t answer m → (x u : ℕ) → IsEldest t m → (turn a p answer t m).kind ≡ Rolled x u → ⊥
    eldest_stays t rule x u first is =
        let r = rolled_by t rule x u is in
        let le = first.1 u (off_tx t u x r.0.store r.0.off) in
        let less = r.1 in
        omega (arith, le, less)

    -- every Waited turn has a blocking thread
    blocked_by : (t : ℕ) → AnswersAt is_older a p t answer m → (x u : ℕ) → (turn a p answer t m).kind ≡ Waited x u → Blocks a p m t u x
    blocked_by t rule x u is =
        let q = went_on t (ap is_idle is) in
        by_tx q.0 q.1 q.0.tx refl (subst (λ z. KindBy a p answer t m q.0 q.0.tx z) is (kind_is t rule q.0 q.1))
      where
        by_tx : (l : Local S) → GoesOn t m l → (tx : Tx S) → l.tx ≡ tx → KindBy a p answer t m l l.tx (Waited x u) → Blocks a p m t u x
        by_tx l goes NoTx e k = let kind = subst (λ z. KindBy a p answer t m l z (Waited x u)) e k in
            record { local = l; goes = goes; store = kind.0; access = kind.1.0; off = found_off t x u kind.0 kind.1.1 }
        by_tx l goes (OpenTx b kk ss) e k = let kind = subst (λ z. KindBy a p answer t m l z (Waited x u)) e k in
            record { local = l; goes = goes; store = kind.0; access = kind.1.0; off = found_off t x u kind.0 kind.1.1 }
        by_tx l goes (GivingUp b kk ss) e k = absurd (subst (λ z. KindBy a p answer t m l z (Waited x u)) e k)
        by_tx l goes (Closing b) e k = absurd (subst (λ z. KindBy a p answer t m l z (Waited x u)) e k)

    -- and the one with the greatest never waits for a word
    pub youngest_goes : (t : ℕ) → AnswersAt is_older a p t answer m → (x u : ℕ) → IsYoungest t m → (turn a p answer t m).kind ≡ Waited x u → ⊥
    youngest_goes t rule x u last is =
        let g = blocked_by t rule x u is in
        let less = waited_by t rule x u last.0 is u g in
        let le = last.1 u (off_tx t u x g.store g.off) in
        omega (arith, less, le)

    -- births rise along the waits of transactions
    module _ (rules : AnswersBy is_older a p answer m) where
      waited_for : (t u : ℕ) → WaitsFor a p answer m t u → tx_in (m.threads u) ≡ true
      waited_for t u w = off_tx t u w.word w.blocks.store w.blocks.off

      wait_rises : (t u : ℕ) → WaitsFor a p answer m t u → tx_in (m.threads t) ≡ true → birth_of (m.threads t) < birth_of (m.threads u)
      wait_rises t u w i = waited_by t (rules t) w.word w.holder i w.waits u w.blocks

      last_tx : {t u : ℕ} → WaitsOn a p answer m t u → tx_in (m.threads u) ≡ true
      last_tx {t} {u} (direct w) = waited_for t u w
      last_tx {t} {u} (along w rest) = last_tx rest

      waits_rise : {t u : ℕ} → WaitsOn a p answer m t u → tx_in (m.threads t) ≡ true → birth_of (m.threads t) < birth_of (m.threads u)
      waits_rise {t} {u} (direct w) i = wait_rises t u w i
      waits_rise {t} {u} (along {u = v} w rest) i =
          let one = wait_rises t v w i in
          let more = waits_rise rest (waited_for t v w) in
          omega (arith, one, more)

      pub no_circle : (t : ℕ) → WaitsOn a p answer m t t → ⊥
      no_circle t w = let less = waits_rise w (last_tx w) in omega (arith, less)

-- the policy `older` answers by its rule
pub older_answers : (c : Clash) → is_older c (answer Older c) ≡ true
older_answers c = elim (nat_lt c.mine c.least) as (λ b. nat_lt c.mine c.least ≡ b → is_older c (if b then Wait else Yield) ≡ true) [
  | true ↦ λ e. e
  | false ↦ λ e. ap not e
] refl
