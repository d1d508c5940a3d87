-- How brackets are paired with those that close them, token by token.
use Rattle.std.specs.Prelude.{◌≡◌, ◌⊎◌, ℕ, ◌+◌, ◌<◌, nat_lt, if◌then◌else◌, true, List, [], ◌∷◌, length, get_or, Option, Some, None}
use Rattle.cpp_syntax.specs.declared.terminal.Terminal.{Terminal}
use Rattle.cpp_syntax.specs.Balance.{terminal_in, Balanced, IsPartner}
use Rattle.cpp_syntax.specs.FirstSets.{opens}

-- the first of some indices, or another
abbrev pub first_or_index : List ℕ → ℕ → ℕ
first_or_index [] i = i
first_or_index (t ∷ opened) i = t

-- Brackets are open at an index: the tokens from each to the next, and from the last to the index, are balanced.
abbrev pub AreOpen : List Terminal → List ℕ → ℕ → Type 0
AreOpen terminals [] i = Unit {0}
AreOpen terminals (s ∷ opened) i = (opens (terminal_in terminals s) ≡ true) × Balanced terminals (s + 1) (first_or_index opened i) × AreOpen terminals opened i

-- an index stands in a list
abbrev pub StandsIn : ℕ → List ℕ → Type 0
StandsIn a [] = ⊥
StandsIn a (s ∷ opened) = (a ≡ s) ⊎ StandsIn a opened

-- What the table has for an index: its own number where its bracket is open, else that of its partner, if it has one.
abbrev pub IsKnown : List Terminal → List ℕ → ℕ → ℕ → Type 0
IsKnown terminals opened a value = (StandsIn a opened × (value ≡ a)) ⊎ IsPartner terminals a (if nat_lt a value then Some value else None)

-- The brackets up to an index are open or known, and the table holds the first so many.
pub record Paired (terminals : List Terminal) (partners opened : List ℕ) (known at : ℕ) : Type 0 where
  pub long : length partners ≡ known
  pub chain : AreOpen terminals opened at
  pub each : (a : ℕ) → a < known → IsKnown terminals opened a (get_or partners a 0)
