-- A whole block depends on the words that it accessed, and changes those alone that it stored to.
use Rattle.std.proofs.Common.{ℕ, ◌≡◌, ◌==◌, Bool, true, false, cond, refl, ap, sym, ◌∙◌, subst, List, [], ◌∷◌}
use Rattle.std.proofs.lemmas.Bool.{true≢false, false≢true}
use Rattle.tx_events.specs.declared.BlockKind.{BlockKind}
use Rattle.tx_events.specs.declared.BlockKind.TheVariants.{NoExcept, Commit, Cancel}
use Rattle.tx_events.specs.declared.End.{End}
use Rattle.tx_events.specs.declared.End.TheVariants.{Trapped}
use Rattle.tx_events.specs.declared.Trap.TheVariants.{BadAddress}
use Rattle.tx_events.specs.declared.Event.{Event}
use Rattle.tx_events.specs.declared.Event.TheVariants.{Silent, Load, Store, Out, Inp, Spawn, Join, BeginAtomic, EndAtomic, Raise, BeginSync, EndSync, Done}
use Rattle.tx_events.specs.declared.Event.TheVariants.{Stop}
use Rattle.tx_events.specs.Thread.{Thread}
use Rattle.tx_events.specs.Memory.{update, MemoryLayout, can_access, word_of}
use Rattle.tx_events.specs.Alone.{Inner, inner_load, inner_store, BlockStep, Goes, Leaves, Halts, Never, newest, leave, raise, inner_by, Inside, at_start}
use Rattle.tx_events.specs.Alone.{goes_on, begin, is_over, Alone, outcome}
use Rattle.tx_events.specs.Laws.{AgreesOn, EndsAlike, RunsAlike, StoresOnly}
use Rattle.tx_events.proofs.BlockRuns.{OnGoes, on_either, newest_all, not_updated, BothTook, both_by, local, Kept, unstored}

-- what was stored to was accessed
abbrev IsIn : {S : Type 0} → ℕ → Inner S → Type 0
IsIn x j = j.accessed x ≡ false → j.stored x ≡ false

module _ {S : Type 0} (a : Thread S) (p : MemoryLayout) where
  leave_in : (x : ℕ) (j : Inner S) (m : ℕ → ℕ) (cs : List (ℕ → ℕ)) → IsIn x j → OnGoes (IsIn x) (leave a j m cs)
  leave_in x j m [] f = tt
  leave_in x j m (c ∷ []) f = tt
  leave_in x j m (c ∷ d ∷ cs) f = f

  raise_in : (x : ℕ) (j : Inner S) (kind : BlockKind) (can : Bool) → IsIn x j → OnGoes (IsIn x) (raise a j kind can)
  raise_in x j NoExcept can f = tt
  raise_in x j Commit can f = leave_in x j j.memory j.copies f
  raise_in x j Cancel true f = leave_in x j (newest j.copies j.memory) j.copies f
  raise_in x j Cancel false f = tt

  not_stored : (f : ℕ → Bool) (k x : ℕ) → (x == k) ≡ false → f x ≡ false → update f k true x ≡ false
  not_stored f k x e h = rw e h

  in_by : (x : ℕ) (j : Inner S) (e : Event) → IsIn x j → OnGoes (IsIn x) (inner_by a p j e)
  in_by x j Silent f = f
  in_by x j (Load addr size vol) f = on_either (IsIn x) (can_access p addr size) (inner_load a j addr size) (Trapped BadAddress)
      (λ h. f (not_updated j.accessed (word_of addr) x h).1)
  in_by x j (Store addr size value vol) f = on_either (IsIn x) (can_access p addr size) (inner_store a j addr size value) (Trapped BadAddress)
      (λ h. let q = not_updated j.accessed (word_of addr) x h in not_stored j.stored (word_of addr) x q.0 (f q.1))
  in_by x j (BeginAtomic kind) f = f
  in_by x j EndAtomic f = leave_in x j j.memory j.copies f
  in_by x j (Raise kind can) f = raise_in x j kind can f
  in_by x j BeginSync f = f
  in_by x j EndSync f = f
  in_by x j (Stop e) f = tt
  in_by x j (Out b) f = tt
  in_by x j Inp f = tt
  in_by x j (Spawn g y) f = tt
  in_by x j (Join id) f = tt
  in_by x j Done f = tt

  stored_in : (s : S) (m : ℕ → ℕ) {j : Inner S} → Inside a p (begin s m) j → (x : ℕ) → IsIn x j
  stored_in s m at_start x = λ h. refl
  stored_in s m (goes_on {j} {k} r e) x = subst (OnGoes (IsIn x)) e (in_by x j (a.next j.state) (stored_in s m r x))

  pub stored_accessed : (s : S) (m : ℕ → ℕ) {j : Inner S} → Inside a p (begin s m) j → (x : ℕ) → j.stored x ≡ true → j.accessed x ≡ true
  stored_accessed s m {j} r x h = by_access (j.accessed x) (stored_in s m r x)
    where
      by_access : (b : Bool) → (b ≡ false → j.stored x ≡ false) → b ≡ true
      by_access true f = refl
      by_access false f = absurd (true≢false (sym h ∙ f refl))

  -- the memory with which a block is left
  abbrev OnLeaves : ((ℕ → ℕ) → Type 0) → BlockStep S → Type 0
  OnLeaves P (Leaves s m) = P m
  OnLeaves P (Goes i) = Unit {0}
  OnLeaves P (Halts e) = Unit {0}
  OnLeaves P Never = Unit {0}

  leaves_leave : (P : (ℕ → ℕ) → Type 0) (j : Inner S) (m : ℕ → ℕ) (cs : List (ℕ → ℕ)) → P m → OnLeaves P (leave a j m cs)
  leaves_leave P j m [] h = tt
  leaves_leave P j m (c ∷ []) h = h
  leaves_leave P j m (c ∷ d ∷ cs) h = tt

  leaves_raise : (m : ℕ → ℕ) (x : ℕ) (j : Inner S) (kind : BlockKind) (can : Bool) → Kept a p m x j → j.stored x ≡ false
      → OnLeaves (λ q. q x ≡ m x) (raise a j kind can)
  leaves_raise m x j NoExcept can f h = tt
  leaves_raise m x j Commit can f h = leaves_leave (λ q. q x ≡ m x) j j.memory j.copies (f h).0
  leaves_raise m x j Cancel true f h = leaves_leave (λ q. q x ≡ m x) j (newest j.copies j.memory) j.copies
      (newest_all x (m x) j.memory j.copies (f h).1 (f h).0)
  leaves_raise m x j Cancel false f h = tt

  leaves_either : (P : (ℕ → ℕ) → Type 0) (b : Bool) (i : Inner S) (e : End) → OnLeaves P (cond b (Goes i) (Halts e))
  leaves_either P true i e = tt
  leaves_either P false i e = tt

  leaves_by : (m : ℕ → ℕ) (x : ℕ) (j : Inner S) (e : Event) → Kept a p m x j → j.stored x ≡ false → OnLeaves (λ q. q x ≡ m x) (inner_by a p j e)
  leaves_by m x j Silent f h = tt
  leaves_by m x j (Load addr size vol) f h = leaves_either (λ q. q x ≡ m x) (can_access p addr size) (inner_load a j addr size) (Trapped BadAddress)
  leaves_by m x j (Store addr size value vol) f h = leaves_either (λ q. q x ≡ m x) (can_access p addr size) (inner_store a j addr size value)
      (Trapped BadAddress)
  leaves_by m x j (BeginAtomic kind) f h = tt
  leaves_by m x j EndAtomic f h = leaves_leave (λ q. q x ≡ m x) j j.memory j.copies (f h).0
  leaves_by m x j (Raise kind can) f h = leaves_raise m x j kind can f h
  leaves_by m x j BeginSync f h = tt
  leaves_by m x j EndSync f h = tt
  leaves_by m x j (Stop e) f h = tt
  leaves_by m x j (Out b) f h = tt
  leaves_by m x j Inp f h = tt
  leaves_by m x j (Spawn g y) f h = tt
  leaves_by m x j (Join id) f h = tt
  leaves_by m x j Done f h = tt

  to_stores : (stored : ℕ → Bool) (m : ℕ → ℕ) (y : BlockStep S) → ((x : ℕ) → stored x ≡ false → OnLeaves (λ q. q x ≡ m x) y) → StoresOnly stored m y
  to_stores stored m (Leaves s q) h = h
  to_stores stored m (Goes i) h = tt
  to_stores stored m (Halts e) h = tt
  to_stores stored m Never h = tt

  pub rest_kept : (s : S) (m : ℕ → ℕ) (alone : Alone a p s m) → StoresOnly alone.last.stored m (outcome alone)
  rest_kept s m alone = to_stores alone.last.stored m (outcome alone)
      (λ x h. leaves_by m x alone.last (a.next alone.last.state) (unstored a p s m alone.run x) h)

  both_over : (m n : ℕ → ℕ) (y z : BlockStep S) → BothTook m n y z → is_over y ≡ true → is_over z ≡ true
  both_over m n (Goes i) z b h = absurd (false≢true h)
  both_over m n Never z b h = absurd (false≢true h)
  both_over m n (Leaves s q) (Leaves r o) b h = refl
  both_over m n (Leaves s q) (Goes j) b h = absurd b
  both_over m n (Leaves s q) (Halts f) b h = absurd b
  both_over m n (Leaves s q) Never b h = absurd b
  both_over m n (Halts e) (Halts f) b h = refl
  both_over m n (Halts e) (Goes j) b h = absurd b
  both_over m n (Halts e) (Leaves r o) b h = absurd b
  both_over m n (Halts e) Never b h = absurd b

  ends_alike : (words stored : ℕ → Bool) (m n : ℕ → ℕ) (y z : BlockStep S) → AgreesOn words m n → ((x : ℕ) → words x ≡ false → stored x ≡ false)
      → BothTook m n y z → is_over y ≡ true → StoresOnly stored n z → EndsAlike words n y z
  ends_alike words stored m n (Goes i) z on off b h only = absurd (false≢true h)
  ends_alike words stored m n Never z on off b h only = absurd (false≢true h)
  ends_alike words stored m n (Leaves s q) (Leaves r o) on off b h only = (b.0, (λ x w. sym (b.1 x (sym (on x w)))), (λ x w. only x (off x w)))
  ends_alike words stored m n (Leaves s q) (Goes j) on off b h only = absurd b
  ends_alike words stored m n (Leaves s q) (Halts f) on off b h only = absurd b
  ends_alike words stored m n (Leaves s q) Never on off b h only = absurd b
  ends_alike words stored m n (Halts e) (Halts f) on off b h only = b
  ends_alike words stored m n (Halts e) (Goes j) on off b h only = absurd b
  ends_alike words stored m n (Halts e) (Leaves r o) on off b h only = absurd b
  ends_alike words stored m n (Halts e) Never on off b h only = absurd b

  on_over : (P : Inner S → Type 0) (y : BlockStep S) → is_over y ≡ true → OnGoes P y
  on_over P (Goes i) e = absurd (false≢true e)
  on_over P (Leaves s m) e = tt
  on_over P (Halts x) e = tt
  on_over P Never e = tt

  pub runs_alike : (s : S) (m n : ℕ → ℕ) (alone : Alone a p s m) → AgreesOn alone.last.accessed m n → RunsAlike alone n
  runs_alike s m n alone same =
      let j = alone.last in
      let on : (x : ℕ) → j.accessed x ≡ true → m x ≡ n x = λ x w. sym (same x w) in
      let r = local a p s m n alone.run on in
      let k = r.0 in
      let next : a.next k.state ≡ a.next j.state = ap a.next r.2.state in
      let both : BothTook m n (outcome alone) (inner_by a p k (a.next k.state)) =
      subst (λ e. BothTook m n (outcome alone) (inner_by a p k e)) (sym next)
      (both_by a p m n j k (a.next j.state) r.2 (on_over (λ i. (x : ℕ) → i.accessed x ≡ true → m x ≡ n x) (outcome alone) alone.over)) in
      let there : Alone a p s n = record { last = k; run = r.1; over = both_over m n (outcome alone) (inner_by a p k (a.next k.state)) both alone.over } in
      record {
        there = there;
        accessed = r.2.accessed;
        stored = r.2.stored;
        ends = ends_alike j.accessed k.stored m n (outcome alone) (outcome there) same
            (λ x w. stored_in s n r.1 x (ap (λ f. f x) r.2.accessed ∙ w)) both alone.over (rest_kept s n there);
      }
