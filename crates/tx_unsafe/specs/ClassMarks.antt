-- What holds of the marks that rounds over a list of classes set.
use Rattle.std.specs.Prelude.{◌≡◌, ℕ, ◌<◌, ◌≤◌, Bool, true, false, not, ◌&&◌, List, slice_get, count_by}
use Rattle.cpp_types.specs.Class.{Class}
use Rattle.cpp_tree.specs.Typing.{passes}
use Rattle.tx_unsafe.specs.Volatile.{marked, has_volatile_part_by, volatile_within}

abbrev pub count_marked : List Bool → ℕ
count_marked marks = count_by (λ (b : Bool). b) marks

-- an unmarked class whose parts give it a mark
abbrev pub has_new_part : List Class → List Bool → ℕ → Bool
has_new_part classes marks n = not (marked marks n) && passes (has_volatile_part_by (marked marks)) (slice_get classes n)

-- what is marked has a volatile part, which lies no deeper than there are marks
pub record SoundClasses (classes : List Class) (marks : List Bool) : Type 0 where
  pub within : (n depth : ℕ) → marked marks n ≡ true → count_marked marks ≤ depth → volatile_within depth classes n ≡ true

-- the classes below an index need no further mark
pub record ClosedClasses (classes : List Class) (marks : List Bool) (limit : ℕ) : Type 0 where
  pub closed : (n : ℕ) → n < limit → has_new_part classes marks n ≡ false
