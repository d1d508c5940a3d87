-- Classes by their names, and how far their chains of bases go.
use Rattle.std.specs.Prelude.{Bool, true, false, ◌≡◌, ◌<◌, ◌≤◌, ℕ, List, length, get_or, nat_eq, Option, Some, slice_get}
use Rattle.std.specs.List.{list_any}
use Rattle.tx_code.specs.Objects.{ClassView}
use Rattle.tx_code.specs.WellFormed.{class_named}
use Rattle.object_bytes.specs.Objects.{goes_on}

-- there is a class at i, which has that name
pub record HasName (cs : List ClassView) (i name : ℕ) : Type 0 where
  pub class : ClassView
  pub at : slice_get cs i ≡ Some class
  pub name_is : class.name ≡ name

pub record HasBase (cs : List ClassView) (i base : ℕ) : Type 0 where
  pub class : ClassView
  pub at : slice_get cs i ≡ Some class
  pub base_is : class.base ≡ base

-- the class of that name stands at i
pub record IsIndex (cs : List ClassView) (name i : ℕ) : Type 0 where
  pub class : ClassView
  pub at : slice_get cs i ≡ Some class
  pub named : class_named cs name ≡ Some class
  pub within : i < length cs

-- each class before low has a name below that one, and each from high on one above it
pub record AreBounds (cs : List ClassView) (name low high : ℕ) : Type 0 where
  pub ordered : low ≤ high
  pub within : high ≤ length cs
  pub below : (k : ℕ) (c : ClassView) → k < low → slice_get cs k ≡ Some c → c.name < name
  pub above : (k : ℕ) (c : ClassView) → high ≤ k → slice_get cs k ≡ Some c → name < c.name

-- the chain of bases from this one ends after just so many steps, which are no more than there are classes
pub record EndsIn (cs : List ClassView) (base steps : ℕ) : Type 0 where
  pub before : (m : ℕ) → m < steps → goes_on cs m base ≡ true
  pub from : (m : ℕ) → steps ≤ m → goes_on cs m base ≡ false
  pub within : steps ≤ length cs

-- the chain of each class that has a number here ends after so many steps
pub record AreSteps (cs : List ClassView) (steps : List (Option ℕ)) : Type 0 where
  pub as_many : length steps ≡ length cs
  pub each : (i k base : ℕ) → HasBase cs i base → slice_get steps i ≡ Some (Some k) → EndsIn cs base k

-- of so many names, whether each is among those used
pub record AreMarks (count : ℕ) (used : List ℕ) (marks : List Bool) : Type 0 where
  pub as_many : length marks ≡ count
  pub each : (i : ℕ) → i < count → get_or marks i false ≡ list_any (nat_eq i) used
