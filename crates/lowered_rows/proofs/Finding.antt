-- What takes an exception in a list of rows.
use Rattle.std.proofs.Common.{◌≡◌, ℕ, Bool, true, false, cond, ◌&&◌, List, [], ◌∷◌, ◌++◌, refl, ap, ◌∙◌}
use Rattle.std.specs.Prelude.{Option, Some, None, option_map, if◌then◌else◌}
use Rattle.tx_code.specs.declared.body.Row.{Row}
use Rattle.tx_code.specs.Meaning.{covers, takes, find}
use Rattle.lowered_rows.specs.Taking.{Taken, way, or_around}

abbrev pub first : List Row → ℕ → ℕ → Option Taken
first rows i ty = option_map way (find rows i ty)

chosen : (v : Bool) (row : Row) (found : Option Row)
    → option_map way (if v then Some row else found) ≡ or_around (cond v (Some (way row)) None) (option_map way found)
chosen true row found = refl
chosen false row found = refl

-- the first row covers the index
pub first_here : (row : Row) (rows : List Row) (i ty : ℕ) → covers row i ≡ true
    → first (row ∷ rows) i ty ≡ or_around (cond (takes row ty) (Some (way row)) None) (first rows i ty)
first_here row rows i ty h =
    ap (λ v. option_map way (if v && takes row ty then Some row else find rows i ty)) h ∙ chosen (takes row ty) row (find rows i ty)

-- it takes all
pub first_sure : (row : Row) (rows : List Row) (i ty : ℕ) → covers row i ≡ true → takes row ty ≡ true → first (row ∷ rows) i ty ≡ Some (way row)
first_sure row rows i ty h t =
    first_here row rows i ty h ∙ ap (λ v. or_around (cond v (Some (way row)) None) (first rows i ty)) t

-- it does not cover the index
pub first_past : (row : Row) (rows : List Row) (i ty : ℕ) → covers row i ≡ false → first (row ∷ rows) i ty ≡ first rows i ty
first_past row rows i ty h = ap (λ v. option_map way (if v && takes row ty then Some row else find rows i ty)) h

-- rows behind that take nothing
pub first_before : (rows others : List Row) (i ty : ℕ) → first others i ty ≡ None → first (rows ++ others) i ty ≡ first rows i ty
first_before [] others i ty h = h
first_before (row ∷ rows) others i ty h = by_test (first_before rows others i ty h) (covers row i && takes row ty) where
  by_test : first (rows ++ others) i ty ≡ first rows i ty → (v : Bool)
      → option_map way (if v then Some row else find (rows ++ others) i ty) ≡ option_map way (if v then Some row else find rows i ty)
  by_test go true = refl
  by_test go false = go
