-- What the laws say of runs.
use Rattle.std.specs.Prelude.{ℕ, ◌≡◌, Bool, true, false}
use Rattle.tx_events.specs.Thread.{Thread}
use Rattle.tx_events.specs.Memory.{MemoryLayout}
use Rattle.tx_events.specs.Alone.{BlockStep, Goes, Leaves, Halts, Never, Alone, outcome}

-- n is m at these words
abbrev pub AgreesOn : (ℕ → Bool) → (ℕ → ℕ) → (ℕ → ℕ) → Type 0
AgreesOn words m n = (x : ℕ) → words x ≡ true → n x ≡ m x

-- n is m at all other words
abbrev pub AgreesOff : (ℕ → Bool) → (ℕ → ℕ) → (ℕ → ℕ) → Type 0
AgreesOff words m n = (x : ℕ) → words x ≡ false → n x ≡ m x

-- two blocks end alike, the second one on the memory n: in the same state, with the same bytes in these words and the rest of n untouched, or at the same end
-- of the program
abbrev pub EndsAlike : {S : Type 0} → (ℕ → Bool) → (ℕ → ℕ) → BlockStep S → BlockStep S → Type 0
EndsAlike words n (Leaves s m') (Leaves r n') = (r ≡ s) × AgreesOn words m' n' × AgreesOff words n n'
EndsAlike words n (Leaves s m') (Halts f) = ⊥
EndsAlike words n (Leaves s m') (Goes j) = ⊥
EndsAlike words n (Leaves s m') Never = ⊥
EndsAlike words n (Halts e) (Halts f) = f ≡ e
EndsAlike words n (Halts e) (Leaves r n') = ⊥
EndsAlike words n (Halts e) (Goes j) = ⊥
EndsAlike words n (Halts e) Never = ⊥
EndsAlike words n (Goes i) y = ⊥
EndsAlike words n Never y = ⊥

-- the block runs alike on the memory n, and accesses the same words
pub record RunsAlike {S : Type 0} {a : Thread S} {p : MemoryLayout} {s : S} {m : ℕ → ℕ} (alone : Alone a p s m) (n : ℕ → ℕ) : Type 0 where
  pub there : Alone a p s n
  pub accessed : there.last.accessed ≡ alone.last.accessed
  pub stored : there.last.stored ≡ alone.last.stored
  pub ends : EndsAlike alone.last.accessed n (outcome alone) (outcome there)

-- where the block is left, memory is m but for the words stored to, and these were accessed
abbrev pub StoresOnly : {S : Type 0} → (ℕ → Bool) → (ℕ → ℕ) → BlockStep S → Type 0
StoresOnly stored m (Leaves s m') = AgreesOff stored m m'
StoresOnly stored m (Goes i) = Unit {0}
StoresOnly stored m (Halts e) = Unit {0}
StoresOnly stored m Never = Unit {0}
