-- Tables of numbers.
use Rattle.std.specs.Prelude.{ℕ, suc, List, [], ◌∷◌, map, Option, option_and_then, slice_get}
use Rattle.std.specs.Global.{Vec}
use Rattle.cpp_tree.specs.cpp_types.Class.{Class}
use Rattle.cpp_tree.specs.Units.{Func as UnitFunc, Unit as TypedUnit}
use Rattle.src_mean.specs.Links.{Def, def_of_func, number_in, number_of_symbol}
use Rattle.src_bind.specs.Defs.{named}

-- the rows of a table
abbrev pub rows : {A : Type 0} → List (Vec A) → List (List A)
rows table = map (λ row. row.items) table

-- what stands in a row of a table
abbrev pub entry : {A : Type 0} → List (Vec A) → ℕ → ℕ → Option A
entry table u n = option_and_then (λ row. slice_get row.items n) (slice_get table u)

-- of each element what it has with its place, which are counted from n on
abbrev pub indexed : {A B : Type 0} → (ℕ → A → B) → ℕ → List A → List B
indexed f n [] = []
indexed f n (x ∷ xs) = f n x ∷ indexed f (suc n) xs

abbrev pub func_numbers : List Def → ℕ → ℕ → List UnitFunc → List ℕ
func_numbers kept u n fs = indexed (λ n f. number_in (def_of_func u n f) kept) n fs

abbrev pub unit_numbers : List Def → ℕ → List TypedUnit → List (List ℕ)
unit_numbers kept u xs = indexed (λ u x. func_numbers kept u 0 x.funcs) u xs

abbrev pub class_numbers : List Def → List Class → List ℕ
class_numbers kept classes = map (λ (c : Class). number_in (named c.name) kept) classes

-- the number of the function that a slot names
abbrev pub slot_numbers : List Def → Option (Vec ℕ) → Option ℕ
slot_numbers kept symbol = option_and_then (λ (name : Vec ℕ). number_of_symbol name.items kept) symbol
