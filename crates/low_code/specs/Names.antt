-- Names and their numbers.
use Rattle.std.specs.Prelude.{ℕ, List, [], ◌∷◌, ◌++◌, cond, bytes_eq}
use Rattle.std.specs.List.{list_any, position_or_len}

-- the place of a name, or how many there are where it is new
abbrev pub number_of : List ℕ → List (List ℕ) → ℕ
number_of name names = position_or_len (bytes_eq name) names

-- a name behind the others, where it is new
abbrev pub with_name : List ℕ → List (List ℕ) → List (List ℕ)
with_name name names = cond (list_any (bytes_eq name) names) names (names ++ name ∷ [])
