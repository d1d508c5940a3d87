-- The objects of the units of a program.
use Rattle.std.specs.Prelude.{◌≡◌, ℕ, zero, suc, Bool, List, [], ◌∷◌, ◌++◌, length, Some, slice_get}
use Rattle.cpp_tree.specs.Units.{TypedProgram, Unit}
use Rattle.clone_gen.specs.Generated.{IsObjectOf}
use Rattle.tx_code.specs.Objects.{ObjectView}
use Rattle.tx_safety.specs.Safe.{is_safe}

-- whether each of so many functions of the unit is safe
abbrev pub safe_first : TypedProgram → (unit count : ℕ) → List Bool
safe_first p unit zero = []
safe_first p unit (suc n) = safe_first p unit n ++ is_safe p unit n ∷ []

-- the object is that of the unit with this index, whose source has this name
abbrev pub IsUnitObject : TypedProgram → (name : List ℕ) → (unit : ℕ) → ObjectView → Type 0
IsUnitObject p name unit o = (u : Unit) → slice_get p.units unit ≡ Some u → IsObjectOf p u (safe_first p unit (length u.funcs)) name o

pub record IsNamedObject (p : TypedProgram) (names : List (List ℕ)) (unit : ℕ) (o : ObjectView) : Type 0 where
  pub name : List ℕ
  pub named : slice_get names unit ≡ Some name
  pub is : IsUnitObject p name unit o

-- one object for each unit, in their order
pub record AreUnitObjects (p : TypedProgram) (names : List (List ℕ)) (objects : List ObjectView) : Type 0 where
  pub many : length objects ≡ length p.units
  pub each : (unit : ℕ) (o : ObjectView) → slice_get objects unit ≡ Some o → IsNamedObject p names unit o
