-- The types that bodies name, by the ranks of their names.
use Rattle.std.specs.Prelude.{Bool, ◌≡◌, ℕ, ◌+◌, List, [], ◌∷◌, ◌++◌, map, Option, Some, None, if◌then◌else◌, length, slice_index}
use Rattle.std.specs.List.{flat_map, position_from}
use Rattle.std.specs.Option.{option_map_or}
use Rattle.std.specs.Str.{bytes_eq}
use Rattle.tx_code.specs.Objects.{BodyView}
use Rattle.tx_code.specs.WellFormed.{named_by_row}
use Rattle.tx_code.specs.Linked.{named_types}
use Rattle.link_faults.specs.Unlisted.{AreMarks}
use Rattle.link_tables.specs.Found.{FuncRow}

-- the marks of more ranks
pub record Adds (ranks : List ℕ) (old new : List Bool) : Type 0 where
  pub marks : (before : List ℕ) → AreMarks before old → AreMarks (before ++ ranks) new
  pub long : length new ≡ length old

abbrev pub list_of : Option ℕ → List ℕ
list_of None = []
list_of (Some n) = n ∷ []

abbrev pub ranks_in_body : (ranks : List ℕ) (start : ℕ) → BodyView → List ℕ
ranks_in_body ranks start b = map (λ n. slice_index ranks (start + n)) (flat_map named_types b.code)
    ++ map (λ n. slice_index ranks (start + n)) (flat_map named_by_row b.rows)

abbrev pub ranks_in_some : (ranks : List ℕ) (start : ℕ) → Option BodyView → List ℕ
ranks_in_some ranks start b = option_map_or (ranks_in_body ranks start) b []

abbrev pub ranks_in_row : (ranks : List ℕ) → FuncRow → List ℕ
ranks_in_row ranks r = ranks_in_some ranks r.home.start r.func.plain ++ ranks_in_some ranks r.home.start r.func.safe

abbrev pub ranks_in_rows : (ranks : List ℕ) → List FuncRow → List ℕ
ranks_in_rows ranks rs = flat_map (ranks_in_row ranks) rs

-- the names whose marks are set
abbrev pub marked : List (List ℕ) → List Bool → List (List ℕ)
marked [] marks = []
marked (n ∷ ns) [] = []
marked (n ∷ ns) (m ∷ ms) = if m then n ∷ marked ns ms else marked ns ms

abbrev pub number_in : (types : List (List ℕ)) → (name : List ℕ) → Option ℕ
number_in types name = position_from (bytes_eq name) 0 types
