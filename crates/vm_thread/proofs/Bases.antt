-- The walk along the bases of a class.
use Rattle.std.proofs.Common.{Bool, true, false, ◌≡◌, ℕ, suc, List, Some, refl, ap, ◌∙◌}
use Rattle.std.specs.Prelude.{nat_eq, slice_get, ◌||◌}
use Rattle.std.specs.Option.{option_map_or}
use Rattle.std.proofs.lemmas.Bool.{eqb-true}
use Rattle.tx_code.specs.Images.{ImageClassView}
use Rattle.tx_code.specs.Program.{derives}

other : (a b : ℕ) (t : Bool) → nat_eq a b ≡ t → (a ≡ b → ⊥) → t ≡ false
other a b true e h = absurd (h (eqb-true a b e))
other a b false e h = refl

-- from a class that is not the one looked for on to its base
pub goes_on : (cs : List ImageClassView) (m at next base : ℕ) (k : ImageClassView) → (at ≡ base → ⊥) → slice_get cs at ≡ Some k → k.base ≡ Some next
    → derives cs (suc m) at base ≡ derives cs m next base
goes_on cs m at next base k h is e =
    ap (λ t. t || option_map_or (λ (k : ImageClassView). option_map_or (λ d. derives cs m d base) k.base false) (slice_get cs at) false)
    (other at base _ refl h)
    ∙ ap (λ o. option_map_or (λ (k : ImageClassView). option_map_or (λ d. derives cs m d base) k.base false) o false) is
    ∙ ap (λ o. option_map_or (λ d. derives cs m d base) o false) e
