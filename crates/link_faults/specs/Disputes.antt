-- What objects claim of symbols, and where two claims cannot both stand.
use Rattle.std.specs.Prelude.{Bool, true, false, ◌≡◌, ◌≤◌, ◌<◌, ℕ, List, Option, Some, None, not, ◌&&◌, ◌||◌, nat_eq}
use Rattle.std.specs.Prelude.{length, slice_get}
use Rattle.link_faults.specs.declared.disputes.Claim.{Claim}
use Rattle.link_faults.specs.Faults.{any_two, first_of}

-- two claims of this symbol, of which one wants to stand alone or which say different things
abbrev pub disputes : ℕ → Claim → Claim → Bool
disputes symbol a b = nat_eq a.symbol symbol && nat_eq b.symbol symbol && (a.alone || b.alone || not (nat_eq a.says b.says))

abbrev pub is_of : ℕ → Claim → Bool
is_of symbol c = nat_eq c.symbol symbol

-- a claim disputes with the first one of its symbol
abbrev pub clashes : Option Claim → Claim → Bool
clashes None c = false
clashes (Some f) c = f.alone || c.alone || not (nat_eq f.says c.says)

abbrev pub is_disputed : List Claim → ℕ → Bool
is_disputed claims symbol = any_two (disputes symbol) claims

-- of numbers
pub record NoRank (test : ℕ → Bool) : Type 0 where
  pub none : (k : ℕ) → test k ≡ false

pub record LeastRank (test : ℕ → Bool) (k : ℕ) : Type 0 where
  pub holds : test k ≡ true
  pub least : (j : ℕ) → test j ≡ true → k ≤ j

-- the least number that passes
abbrev pub IsLeast : (ℕ → Bool) → Option ℕ → Type 0
IsLeast test None = NoRank test
IsLeast test (Some k) = LeastRank test k

-- of each symbol the first claim
abbrev pub AreFirst : List Claim → List (Option Claim) → Type 0
AreFirst claims first = (k : ℕ) → k < length first → slice_get first k ≡ Some (first_of (is_of k) claims)
