-- Where the policy is asked, and where it is not.
use Rattle.std.proofs.Common.{ℕ, ◌≡◌, ◌⊎◌, inl, inr, Bool, true, false, Some, None, List, refl, ap, sym, ◌∙◌, subst}
use Rattle.std.proofs.lemmas.Bool.{true≢false}
use Rattle.std.proofs.lemmas.Option.{same_Some}
use Rattle.choosers.specs.declared.Clash.{Clash}
use Rattle.choosers.specs.declared.Choice.{Choice}
use Rattle.choosers.specs.declared.Choice.TheVariants.{Wait}
use Rattle.tx_events.specs.declared.Event.{Event}
use Rattle.tx_events.specs.declared.Event.TheVariants.{Silent, Load, Store, Out, Inp, Spawn, Join, BeginAtomic, EndAtomic, Raise, BeginSync, EndSync, Done}
use Rattle.tx_events.specs.declared.Event.TheVariants.{Stop}
use Rattle.tx_events.specs.declared.TurnKind.{TurnKind}
use Rattle.tx_events.specs.Memory.{MemoryLayout, can_access, word_of}
use Rattle.tx_events.specs.Thread.{Thread}
use Rattle.tx_serial.specs.Machine.{Machine, Local, Save, Tx, NoTx, OpenTx, GivingUp, Closing, blocker, clash_of}
use Rattle.tx_serial.specs.Turn.{turn}
use Rattle.tx_serial.specs.Run.{is_access}
use Rattle.tx_serial.specs.Kinds.{Accesses, Asked}
use Rattle.tx_runtime.specs.Here.{IsStill, Chosen}

module _ {S : Type 0} (a : Thread S) (p : MemoryLayout) (t : ℕ) (m : Machine S) where
  -- the access at which the policy is asked, by the thread's next event
  pub record AskedAt (l : Local S) (e : Event) (c : Clash) : Type 0 where
    pub birth : ℕ
    pub kept : S
    pub saves : List Save
    pub tx : l.tx ≡ OpenTx birth kept saves
    pub store : Bool
    pub word : ℕ
    pub holder : ℕ
    pub access : Accesses p e store word
    pub blocked : blocker t store word m ≡ Some holder
    pub is : c ≡ clash_of t store word m birth holder

  pub asked_at : (l : Local S) (e : Event) (c : Clash) → m.threads t ≡ Some l → a.next l.state ≡ e → Asked a p t m c → AskedAt l e c
  asked_at l e c at next k =
      let same : k.local ≡ l = same_Some k.local l (sym k.goes.is ∙ at) in
      record {
        birth = k.birth;
        kept = k.kept;
        saves = k.saves;
        tx = ap (λ (v : Local S). v.tx) (sym same) ∙ k.tx;
        store = k.store;
        word = k.word;
        holder = k.holder;
        access = subst (λ v. Accesses p v k.store k.word) (ap (λ (v : Local S). a.next v.state) same ∙ next) k.blocked.0;
        blocked = k.blocked.1;
        is = k.is;
      }

  pub asked_access : (e : Event) (store : Bool) (word : ℕ) → Accesses p e store word → is_access e ≡ true
  asked_access (Load addr size vol) store word h = refl
  asked_access (Store addr size value vol) store word h = refl
  asked_access Silent store word h = absurd h
  asked_access (Out byte) store word h = absurd h
  asked_access Inp store word h = absurd h
  asked_access (Spawn f x) store word h = absurd h
  asked_access (Join id) store word h = absurd h
  asked_access (BeginAtomic kind) store word h = absurd h
  asked_access EndAtomic store word h = absurd h
  asked_access (Raise kind can) store word h = absurd h
  asked_access BeginSync store word h = absurd h
  asked_access EndSync store word h = absurd h
  asked_access Done store word h = absurd h
  asked_access (Stop e) store word h = absurd h

  pub load_free : (l : Local S) (addr size : ℕ) (vol : Bool) → m.threads t ≡ Some l → a.next l.state ≡ Load addr size vol → (can_access p addr size ≡ false)
      ⊎ (blocker t false (word_of addr) m ≡ None) → (c : Clash) → Asked a p t m c → ⊥
  load_free l addr size vol at next (inl h) c k = let q = asked_at l (Load addr size vol) c at next k in true≢false (sym q.access.0 ∙ h)
  load_free l addr size vol at next (inr h) c k =
      let q = asked_at l (Load addr size vol) c at next k in
      let found : None ≡ Some q.holder = sym h ∙ (ap (λ w. blocker t false w m) (sym q.access.2) ∙
      (ap (λ s. blocker t s q.word m) (sym q.access.1) ∙ q.blocked)) in
      cc

  pub store_free : (l : Local S) (addr size value : ℕ) (vol : Bool) → m.threads t ≡ Some l → a.next l.state ≡ Store addr size value vol
      → (can_access p addr size ≡ false) ⊎ (blocker t true (word_of addr) m ≡ None) → (c : Clash) → Asked a p t m c → ⊥
  store_free l addr size value vol at next (inl h) c k = let q = asked_at l (Store addr size value vol) c at next k in true≢false (sym q.access.0 ∙ h)
  store_free l addr size value vol at next (inr h) c k =
      let q = asked_at l (Store addr size value vol) c at next k in
      let found : None ≡ Some q.holder = sym h ∙ (ap (λ w. blocker t true w m) (sym q.access.2) ∙
      (ap (λ s. blocker t s q.word m) (sym q.access.1) ∙ q.blocked)) in
      cc

  pub alone_free : (l : Local S) (e : Event) → m.threads t ≡ Some l → a.next l.state ≡ e → is_access e ≡ false → (c : Clash) → Asked a p t m c → ⊥
  alone_free l e at next h c k = let q = asked_at l e c at next k in true≢false (sym (asked_access e q.store q.word q.access) ∙ h)

  not_open : (l : Local S) (tx : Tx S) → m.threads t ≡ Some l → l.tx ≡ tx → ((b : ℕ) (k : S) (ss : List Save) → tx ≡ OpenTx b k ss → ⊥) → (c : Clash)
      → Asked a p t m c → ⊥
  not_open l tx at is none c k = let q = asked_at l (a.next l.state) c at refl k in none q.birth q.kept q.saves (sym is ∙ q.tx)

  pub outside_free : (l : Local S) → m.threads t ≡ Some l → l.tx ≡ NoTx → (c : Clash) → Asked a p t m c → ⊥
  outside_free l at is = not_open l NoTx at is (λ b k ss e. cc)

  pub giving_free : (l : Local S) (b : ℕ) (k : S) (ss : List Save) → m.threads t ≡ Some l → l.tx ≡ GivingUp b k ss → (c : Clash) → Asked a p t m c → ⊥
  giving_free l b k ss at is = not_open l (GivingUp b k ss) at is (λ b' k' ss' e. cc)

  pub closing_free : (l : Local S) (b : ℕ) → m.threads t ≡ Some l → l.tx ≡ Closing b → (c : Clash) → Asked a p t m c → ⊥
  closing_free l b at is = not_open l (Closing b) at is (λ b' k' ss' e. cc)

  pub still_free : IsStill t m → (c : Clash) → Asked a p t m c → ⊥
  still_free h c k = true≢false (sym (h k.local k.goes.is) ∙ k.goes.up)

  -- a turn in which no policy is asked
  pub unasked : (answers : Clash → Choice → Type 0) (allows : Clash → Choice → Bool) (kind : TurnKind) (new : Machine S) → ((c : Clash) → Asked a p t m c → ⊥)
      → ((answer : Clash → Choice) → record { machine = new; kind = kind } ≡ turn a p answer t m) → Chosen a p answers allows t m kind new
  unasked answers allows kind new none turned = record { choice = Wait; asked = λ c k. absurd (none c k); turned = turned (λ _. Wait) }

  same_access : (e : Event) (s z : Bool) (w x : ℕ) → Accesses p e s w → Accesses p e z x → (z ≡ s) × (x ≡ w)
  same_access (Load addr size vol) s z w x g h = (h.1 ∙ sym g.1, h.2 ∙ sym g.2)
  same_access (Store addr size value vol) s z w x g h = (h.1 ∙ sym g.1, h.2 ∙ sym g.2)
  same_access Silent s z w x g h = absurd g
  same_access (Out byte) s z w x g h = absurd g
  same_access Inp s z w x g h = absurd g
  same_access (Spawn f arg) s z w x g h = absurd g
  same_access (Join id) s z w x g h = absurd g
  same_access (BeginAtomic kind) s z w x g h = absurd g
  same_access EndAtomic s z w x g h = absurd g
  same_access (Raise kind can) s z w x g h = absurd g
  same_access BeginSync s z w x g h = absurd g
  same_access EndSync s z w x g h = absurd g
  same_access Done s z w x g h = absurd g
  same_access (Stop e) s z w x g h = absurd g

  open_birth : (b d : ℕ) (k j : S) (ss rs : List Save) → OpenTx b k ss ≡ OpenTx d j rs → b ≡ d
  open_birth b d k j ss rs e = cc

  -- the clash at which it is asked is the one of this access
  pub clash_asked : (l : Local S) (e : Event) (store : Bool) (word holder b : ℕ) (k : S) (ss : List Save) → m.threads t ≡ Some l → a.next l.state ≡ e
      → l.tx ≡ OpenTx b k ss → Accesses p e store word → blocker t store word m ≡ Some holder
      → (c : Clash) → Asked a p t m c → c ≡ clash_of t store word m b holder
  clash_asked l e store word holder b k ss at next tx access blocked c asked =
      let q = asked_at l e c at next asked in
      let same = same_access e store q.store word q.word access q.access in
      let holder_is : q.holder ≡ holder = same_Some q.holder holder
      (sym q.blocked ∙ (ap (λ w. blocker t q.store w m) same.1 ∙ (ap (λ s. blocker t s word m) same.0 ∙ blocked))) in
      let birth_is : q.birth ≡ b = open_birth q.birth b q.kept k q.saves ss (sym q.tx ∙ tx) in
      q.is
      ∙ (ap (λ z. clash_of t z q.word m q.birth q.holder) same.0
      ∙ (ap (λ z. clash_of t store z m q.birth q.holder) same.1
      ∙ (ap (λ z. clash_of t store word m z q.holder) birth_is ∙ ap (λ z. clash_of t store word m b z) holder_is)))
