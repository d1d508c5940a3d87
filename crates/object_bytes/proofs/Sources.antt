-- The name with a number plus 1.
use Rattle.std.proofs.Common.{◌≡◌, ℕ, zero, suc, ◌-◌, List, refl, arith}
use Rattle.std.specs.List.{slice_get}
use Rattle.object_bytes.specs.Objects.{source_of}

pub source_there : (names : List (List ℕ)) (n : ℕ) → (n ≡ 0 → ⊥) → source_of names n ≡ slice_get names (n - 1)
source_there names zero h = absurd (h refl)
source_there names (suc i) h =
    let k : suc i - 1 ≡ i = omega arith in
    rw k refl
