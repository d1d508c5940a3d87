-- A run inside a block depends on the words that it accessed, and on no other.
use Rattle.std.proofs.Common.{ℕ, ◌≡◌, ◌==◌, Bool, true, false, cond, refl, ap, sym, ◌∙◌, subst, List, [], ◌∷◌}
use Rattle.std.proofs.lemmas.Bool.{eq-eqb, eqb-true, false≢true}
use Rattle.tx_events.specs.declared.BlockKind.{BlockKind}
use Rattle.tx_events.specs.declared.BlockKind.TheVariants.{NoExcept, Commit, Cancel}
use Rattle.tx_events.specs.declared.End.{End}
use Rattle.tx_events.specs.declared.End.TheVariants.{Trapped}
use Rattle.tx_events.specs.declared.Trap.TheVariants.{BadAddress}
use Rattle.tx_events.specs.declared.Event.{Event}
use Rattle.tx_events.specs.declared.Event.TheVariants.{Silent, Load, Store, Out, Inp, Spawn, Join, BeginAtomic, EndAtomic, Raise, BeginSync, EndSync, Done}
use Rattle.tx_events.specs.declared.Event.TheVariants.{Stop}
use Rattle.tx_events.specs.declared.Reply.TheVariants.{Nothing}
use Rattle.tx_events.specs.Thread.{Thread}
use Rattle.tx_events.specs.Memory.{update, MemoryLayout, can_access, word_of, merge}
use Rattle.tx_events.specs.Alone.{Inner, inner_load, inner_store, BlockStep, Goes, Leaves, Halts, Never, newest, leave, raise, inner_by, Inside, at_start}
use Rattle.tx_events.specs.Alone.{goes_on, begin}

pub update_same : {A : Type 0} (f : ℕ → A) (k : ℕ) (v : A) → update f k v k ≡ v
update_same f k v = rw (eq-eqb k k refl)

pub update_elsewhere : {A : Type 0} (f : ℕ → A) (y : ℕ) (v : A) (x : ℕ) → (x == y) ≡ false → update f y v x ≡ f x
update_elsewhere f y v x h = rw h

pub update_true : (f : ℕ → Bool) (k x : ℕ) → f x ≡ true → update f k true x ≡ true
update_true f k x h = elim (x == k) as (λ b. cond b true (f x) ≡ true) [ true ↦ refl | false ↦ h ]

pub not_updated : (f : ℕ → Bool) (k x : ℕ) → update f k true x ≡ false → ((x == k) ≡ false) × (f x ≡ false)
not_updated f k x h = elim (x == k) as (λ b. cond b true (f x) ≡ false → (b ≡ false) × (f x ≡ false)) [
  | true ↦ λ e. absurd (false≢true (sym e))
  | false ↦ λ e.
      (refl, e)
] h

-- each of the memories has v at x
abbrev pub AllAt : ℕ → ℕ → List (ℕ → ℕ) → Type 0
AllAt x v [] = Unit {0}
AllAt x v (c ∷ cs) = (c x ≡ v) × AllAt x v cs

-- equal but where m and n differ, list by list
abbrev pub Both : (m n : ℕ → ℕ) → List (ℕ → ℕ) → List (ℕ → ℕ) → Type 0
Both m n [] [] = Unit {0}
Both m n [] (d ∷ ds) = ⊥
Both m n (c ∷ cs) [] = ⊥
Both m n (c ∷ cs) (d ∷ ds) = ((x : ℕ) → m x ≡ n x → c x ≡ d x) × Both m n cs ds

pub newest_both : (m n q r : ℕ → ℕ) (cs ds : List (ℕ → ℕ)) → Both m n cs ds → ((x : ℕ) → m x ≡ n x → q x ≡ r x) → (x : ℕ) → m x ≡ n x
    → newest cs q x ≡ newest ds r x
newest_both m n q r [] [] b h x e = h x e
newest_both m n q r [] (d ∷ ds) b h x e = absurd b
newest_both m n q r (c ∷ cs) [] b h x e = absurd b
newest_both m n q r (c ∷ cs) (d ∷ ds) b h x e = b.0 x e

pub newest_all : (x v : ℕ) (q : ℕ → ℕ) (cs : List (ℕ → ℕ)) → AllAt x v cs → q x ≡ v → newest cs q x ≡ v
newest_all x v q [] k h = h
newest_all x v q (c ∷ cs) k h = k.0

module _ {S : Type 0} where
  -- what holds of the state that a step goes on to
  abbrev pub OnGoes : (Inner S → Type 0) → BlockStep S → Type 0
  OnGoes P (Goes i) = P i
  OnGoes P (Leaves s m) = Unit {0}
  OnGoes P (Halts e) = Unit {0}
  OnGoes P Never = Unit {0}

  pub on_either : (P : Inner S → Type 0) (b : Bool) (i : Inner S) (e : End) → P i → OnGoes P (cond b (Goes i) (Halts e))
  on_either P true i e h = h
  on_either P false i e h = tt

  -- j and k are alike, but where the memories m and n, from which they came, differ
  pub record Alike (m n : ℕ → ℕ) (j k : Inner S) : Type 0 where
    pub state : k.state ≡ j.state
    pub accessed : k.accessed ≡ j.accessed
    pub stored : k.stored ≡ j.stored
    pub memory : (x : ℕ) → m x ≡ n x → j.memory x ≡ k.memory x
    pub copies : Both m n j.copies k.copies

  abbrev pub BothTook : (m n : ℕ → ℕ) → BlockStep S → BlockStep S → Type 0
  BothTook m n (Goes i) (Goes j) = Alike m n i j
  BothTook m n (Goes i) (Leaves s o) = ⊥
  BothTook m n (Goes i) (Halts e) = ⊥
  BothTook m n (Goes i) Never = ⊥
  BothTook m n (Leaves s o) (Leaves r q) = (r ≡ s) × ((x : ℕ) → m x ≡ n x → o x ≡ q x)
  BothTook m n (Leaves s o) (Goes j) = ⊥
  BothTook m n (Leaves s o) (Halts e) = ⊥
  BothTook m n (Leaves s o) Never = ⊥
  BothTook m n (Halts e) (Halts f) = f ≡ e
  BothTook m n (Halts e) (Goes j) = ⊥
  BothTook m n (Halts e) (Leaves r q) = ⊥
  BothTook m n (Halts e) Never = ⊥
  BothTook m n Never Never = Unit {0}
  BothTook m n Never (Goes j) = ⊥
  BothTook m n Never (Leaves r q) = ⊥
  BothTook m n Never (Halts f) = ⊥

  both_either : (m n : ℕ → ℕ) (b : Bool) (i j : Inner S) (e : End) → (b ≡ true → Alike m n i j)
      → BothTook m n (cond b (Goes i) (Halts e)) (cond b (Goes j) (Halts e))
  both_either m n true i j e h = h refl
  both_either m n false i j e h = refl

  goes_both : (m n : ℕ → ℕ) (j : Inner S) (y : BlockStep S) → BothTook m n (Goes j) y → (k : Inner S) × (y ≡ Goes k) × Alike m n j k
  goes_both m n j (Goes k) b = (k, refl, b)
  goes_both m n j (Leaves r q) b = absurd b
  goes_both m n j (Halts f) b = absurd b
  goes_both m n j Never b = absurd b

module _ {S : Type 0} (a : Thread S) (p : MemoryLayout) where
  -- an accessed word stays one
  leave_accessed : (j : Inner S) (m : ℕ → ℕ) (cs : List (ℕ → ℕ)) (x : ℕ) → j.accessed x ≡ true → OnGoes (λ k. k.accessed x ≡ true) (leave a j m cs)
  leave_accessed j m [] x h = tt
  leave_accessed j m (c ∷ []) x h = tt
  leave_accessed j m (c ∷ d ∷ cs) x h = h

  raise_accessed : (j : Inner S) (kind : BlockKind) (can : Bool) (x : ℕ) → j.accessed x ≡ true → OnGoes (λ k. k.accessed x ≡ true) (raise a j kind can)
  raise_accessed j NoExcept can x h = tt
  raise_accessed j Commit can x h = leave_accessed j j.memory j.copies x h
  raise_accessed j Cancel true x h = leave_accessed j (newest j.copies j.memory) j.copies x h
  raise_accessed j Cancel false x h = tt

  accessed_grows : (j : Inner S) (e : Event) (x : ℕ) → j.accessed x ≡ true → OnGoes (λ k. k.accessed x ≡ true) (inner_by a p j e)
  accessed_grows j Silent x h = h
  accessed_grows j (Load addr size vol) x h = on_either (λ k. k.accessed x ≡ true) (can_access p addr size) (inner_load a j addr size) (Trapped BadAddress)
      (update_true j.accessed (word_of addr) x h)
  accessed_grows j (Store addr size value vol) x h = on_either (λ k. k.accessed x ≡ true) (can_access p addr size) (inner_store a j addr size value)
      (Trapped BadAddress) (update_true j.accessed (word_of addr) x h)
  accessed_grows j (BeginAtomic kind) x h = h
  accessed_grows j EndAtomic x h = leave_accessed j j.memory j.copies x h
  accessed_grows j (Raise kind can) x h = raise_accessed j kind can x h
  accessed_grows j BeginSync x h = h
  accessed_grows j EndSync x h = h
  accessed_grows j (Stop e) x h = tt
  accessed_grows j (Out b) x h = tt
  accessed_grows j Inp x h = tt
  accessed_grows j (Spawn f y) x h = tt
  accessed_grows j (Join id) x h = tt
  accessed_grows j Done x h = tt

  -- where a load is next, the word is accessed then
  abbrev Seen : (m n : ℕ → ℕ) → Inner S → Event → Type 0
  Seen m n j e = OnGoes (λ k. (x : ℕ) → k.accessed x ≡ true → m x ≡ n x) (inner_by a p j e)

  leave_both : (m n : ℕ → ℕ) (j k : Inner S) (q r : ℕ → ℕ) (cs ds : List (ℕ → ℕ)) → Alike m n j k → ((x : ℕ) → m x ≡ n x → q x ≡ r x) → Both m n cs ds
      → BothTook m n (leave a j q cs) (leave a k r ds)
  leave_both m n j k q r [] [] f h b = tt
  leave_both m n j k q r [] (d ∷ ds) f h b = absurd b
  leave_both m n j k q r (c ∷ cs) [] f h b = absurd b
  leave_both m n j k q r (c ∷ []) (d ∷ []) f h b = (ap (λ s. a.after s Nothing) f.state, h)
  leave_both m n j k q r (c ∷ []) (d ∷ d' ∷ ds) f h b = absurd b.1
  leave_both m n j k q r (c ∷ c' ∷ cs) (d ∷ []) f h b = absurd b.1
  leave_both m n j k q r (c ∷ c' ∷ cs) (d ∷ d' ∷ ds) f h b =
      record { state = ap (λ s. a.after s Nothing) f.state; accessed = f.accessed; stored = f.stored; memory = h; copies = b.1 }

  raise_both : (m n : ℕ → ℕ) (j k : Inner S) (kind : BlockKind) (can : Bool) → Alike m n j k → BothTook m n (raise a j kind can) (raise a k kind can)
  raise_both m n j k NoExcept can f = refl
  raise_both m n j k Commit can f = leave_both m n j k j.memory k.memory j.copies k.copies f f.memory f.copies
  raise_both m n j k Cancel true f = leave_both m n j k (newest j.copies j.memory) (newest k.copies k.memory) j.copies k.copies f
      (newest_both m n j.memory k.memory j.copies k.copies f.copies f.memory) f.copies
  raise_both m n j k Cancel false f = refl

  pub both_by : (m n : ℕ → ℕ) (j k : Inner S) (e : Event) → Alike m n j k → Seen m n j e → BothTook m n (inner_by a p j e) (inner_by a p k e)
  both_by m n j k Silent f h = record {
    state = ap (λ s. a.after s Nothing) f.state;
    accessed = f.accessed;
    stored = f.stored;
    memory = f.memory;
    copies =
        f.copies;
  }
  both_by m n j k (Load addr size vol) f h = both_either m n (can_access p addr size) (inner_load a j addr size) (inner_load a k addr size) (Trapped BadAddress)
      (λ ok.
      let g : (x : ℕ) → (inner_load a j addr size).accessed x ≡ true → m x ≡ n x =
      subst (λ b. OnGoes (λ i. (x : ℕ) → i.accessed x ≡ true → m x ≡ n x) (cond b (Goes (inner_load a j addr size)) (Halts (Trapped BadAddress)))) ok h in
      let q = f.memory (word_of addr) (g (word_of addr) (update_same j.accessed (word_of addr) true)) in
      let s = f.state in
      record {
        state = cc;
        accessed = ap (λ w. update w (word_of addr) true) f.accessed;
        stored = f.stored;
        memory = f.memory;
        copies = f.copies;
      })
  both_by m n j k (Store addr size value vol) f h = both_either m n (can_access p addr size) (inner_store a j addr size value) (inner_store a k addr size value)
      (Trapped BadAddress) (λ ok. record {
        state = ap (λ s. a.after s Nothing) f.state;
        accessed = ap (λ w. update w (word_of addr) true) f.accessed;
        stored = ap (λ w. update w (word_of addr) true) f.stored;
        memory = λ x e. elim (x == word_of addr) as (λ q. (x == word_of addr) ≡ q → cond q (merge addr size value (j.memory (word_of addr))) (j.memory x)
            ≡ cond q
            (merge addr size value (k.memory (word_of addr))) (k.memory x)) [
              | true ↦ λ i. ap (merge addr size value) (f.memory (word_of addr) (subst (λ y. m y ≡ n y) (eqb-true x (word_of addr) i) e))
              | false ↦ λ i. f.memory x e
            ] refl;
        copies = f.copies;
      })
  both_by m n j k (BeginAtomic kind) f h = record {
    state = ap (λ s. a.after s Nothing) f.state;
    accessed = f.accessed;
    stored = f.stored;
    memory = f.memory;
    copies = (f.memory, f.copies);
  }
  both_by m n j k EndAtomic f h = leave_both m n j k j.memory k.memory j.copies k.copies f f.memory f.copies
  both_by m n j k (Raise kind can) f h = raise_both m n j k kind can f
  both_by m n j k BeginSync f h = record {
    state = ap (λ s. a.after s Nothing) f.state;
    accessed = f.accessed;
    stored = f.stored;
    memory = f.memory;
    copies =
        f.copies;
  }
  both_by m n j k EndSync f h = record {
    state = ap (λ s. a.after s Nothing) f.state;
    accessed = f.accessed;
    stored = f.stored;
    memory = f.memory;
    copies =
        f.copies;
  }
  both_by m n j k (Stop e) f h = refl
  both_by m n j k (Out b) f h = tt
  both_by m n j k Inp f h = tt
  both_by m n j k (Spawn g y) f h = tt
  both_by m n j k (Join id) f h = tt
  both_by m n j k Done f h = tt

  -- the run is the same from each memory that agrees on the words that it accessed
  pub local : (s : S) (m n : ℕ → ℕ) {j : Inner S} → Inside a p (begin s m) j → ((x : ℕ) → j.accessed x ≡ true → m x ≡ n x) → (k : Inner S)
      × Inside a p (begin s n) k × Alike m n j k
  local s m n at_start h = (begin s n, at_start, record { state = refl; accessed = refl; stored = refl; memory = λ x e. e; copies = ((λ x e. e), tt) })
  local s m n (goes_on {j} {k} r e) h =
      let grows : (x : ℕ) → j.accessed x ≡ true → k.accessed x ≡ true =
      λ x w. subst (OnGoes (λ i. i.accessed x ≡ true)) e (accessed_grows j (a.next j.state) x w) in
      let before = local s m n r (λ x w. h x (grows x w)) in
      let i = before.0 in
      let next = ap a.next before.2.state in
      let seen : Seen m n j (a.next j.state) = subst (OnGoes (λ i. (x : ℕ) → i.accessed x ≡ true → m x ≡ n x)) (sym e) h in
      let both = subst (λ y. BothTook m n y (inner_by a p i (a.next j.state))) e (both_by m n j i (a.next j.state) before.2 seen) in
      let last = goes_both m n k (inner_by a p i (a.next j.state)) both in
      (last.0, goes_on before.1 (ap (inner_by a p i) next ∙ last.1), last.2)

  -- a word that was not stored to is as it was, in memory and in each copy
  abbrev pub Kept : (ℕ → ℕ) → ℕ → Inner S → Type 0
  Kept m x i = i.stored x ≡ false → (i.memory x ≡ m x) × AllAt x (m x) i.copies

  leave_kept : (m : ℕ → ℕ) (x : ℕ) (j : Inner S) (q : ℕ → ℕ) (cs : List (ℕ → ℕ)) → (j.stored x ≡ false → (q x ≡ m x) × AllAt x (m x) cs)
      → OnGoes (Kept m x) (leave a j q cs)
  leave_kept m x j q [] f = tt
  leave_kept m x j q (c ∷ []) f = tt
  leave_kept m x j q (c ∷ d ∷ cs) f = λ h. ((f h).0, (f h).1.1)

  raise_kept : (m : ℕ → ℕ) (x : ℕ) (j : Inner S) (kind : BlockKind) (can : Bool) → Kept m x j → OnGoes (Kept m x) (raise a j kind can)
  raise_kept m x j NoExcept can f = tt
  raise_kept m x j Commit can f = leave_kept m x j j.memory j.copies f
  raise_kept m x j Cancel true f = leave_kept m x j (newest j.copies j.memory) j.copies (λ h. (newest_all x (m x) j.memory j.copies (f h).1 (f h).0, (f h).1))
  raise_kept m x j Cancel false f = tt

  kept_by : (m : ℕ → ℕ) (x : ℕ) (j : Inner S) (e : Event) → Kept m x j → OnGoes (Kept m x) (inner_by a p j e)
  kept_by m x j Silent f = f
  kept_by m x j (Load addr size vol) f = on_either (Kept m x) (can_access p addr size) (inner_load a j addr size) (Trapped BadAddress) f
  kept_by m x j (Store addr size value vol) f = on_either (Kept m x) (can_access p addr size) (inner_store a j addr size value) (Trapped BadAddress)
      (λ h. let q = not_updated j.stored (word_of addr) x h in
      (update_elsewhere j.memory (word_of addr) (merge addr size value (j.memory (word_of addr))) x q.0 ∙ (f q.1).0, (f q.1).1))
  kept_by m x j (BeginAtomic kind) f = λ h. ((f h).0, ((f h).0, (f h).1))
  kept_by m x j EndAtomic f = leave_kept m x j j.memory j.copies f
  kept_by m x j (Raise kind can) f = raise_kept m x j kind can f
  kept_by m x j BeginSync f = f
  kept_by m x j EndSync f = f
  kept_by m x j (Stop e) f = tt
  kept_by m x j (Out b) f = tt
  kept_by m x j Inp f = tt
  kept_by m x j (Spawn g y) f = tt
  kept_by m x j (Join id) f = tt
  kept_by m x j Done f = tt

  pub unstored : (s : S) (m : ℕ → ℕ) {j : Inner S} → Inside a p (begin s m) j → (x : ℕ) → Kept m x j
  unstored s m at_start x = λ h. (refl, (refl, tt))
  unstored s m (goes_on {j} {k} r e) x = subst (OnGoes (Kept m x)) e (kept_by m x j (a.next j.state) (unstored s m r x))
