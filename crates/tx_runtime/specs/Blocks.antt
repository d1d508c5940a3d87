-- The transactions that keep an access off.
use Rattle.std.specs.Prelude.{ℕ, ◌≡◌, Bool, Option, Some, None}
use Rattle.tx_serial.specs.Machine.{Machine, eldest, greatest, count, birth_of, conflicts_with}
use Rattle.tx_runtime.specs.declared.access.Blockers.{Blockers}

-- of the numbers below n for which p holds: the one whose f is least, its f, the greatest f, and how many there are
pub record SumsOf (p : ℕ → Bool) (f : ℕ → ℕ) (n : ℕ) (b : Blockers) : Type 0 where
  pub eldest : eldest p f n ≡ Some b.eldest
  pub least : b.least ≡ f b.eldest
  pub greatest : b.greatest ≡ greatest p f n
  pub count : b.count ≡ count p n

pub record NoneOf (p : ℕ → Bool) (f : ℕ → ℕ) (n : ℕ) : Type 0 where
  pub eldest : eldest p f n ≡ None
  pub greatest : greatest p f n ≡ 0
  pub count : count p n ≡ 0

abbrev pub Sums : (ℕ → Bool) → (ℕ → ℕ) → ℕ → Option Blockers → Type 0
Sums p f n None = NoneOf p f n
Sums p f n (Some b) = SumsOf p f n b

-- those that keep off this access of thread t to the word x
abbrev pub BlocksBy : {S : Type 0} → ℕ → Bool → ℕ → Machine S → Option Blockers → Type 0
BlocksBy t store x m o = Sums (conflicts_with t store x m.threads) (λ u. birth_of (m.threads u)) m.started o
