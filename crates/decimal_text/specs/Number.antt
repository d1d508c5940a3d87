-- Numbers at the front of a text.
use Rattle.std.specs.Prelude.{◌≡◌, ◌≤◌, ◌++◌, ◌+◌, ◌*◌, ◌-◌, false, ℕ, List, [], ◌∷◌, slice_index}
use Rattle.std.specs.Char.{is_ascii_digit}
use Rattle.std.specs.Fmt.{decimal}

-- no digit stands at the front
abbrev pub IsBehind : List ℕ → Type 0
IsBehind rest = is_ascii_digit (slice_index rest 0) ≡ false

-- the text begins with this number, in decimal without leading zeros, and then has the rest
pub record BeginsWith (text : List ℕ) (most n : ℕ) (rest : List ℕ) : Type 0 where
  pub bound : n ≤ most
  pub written : text ≡ decimal n ++ rest
  pub behind : IsBehind rest

abbrev pub BeginsWithNone : List ℕ → ℕ → Type 0
BeginsWithNone text most = (n : ℕ) (rest : List ℕ) → BeginsWith text most n rest → ⊥

-- the number that the digits write when they follow those of n
abbrev pub read_on : ℕ → List ℕ → ℕ
read_on n [] = n
read_on n (c ∷ cs) = read_on (10 * n + (c - 48)) cs
