-- The indexes that wait, as the code keeps them in a heap.
use Rattle.std.specs.Prelude.{Bool, true, false, ◌≡◌, ℕ, ◌==◌, List, None, is_some, not, ◌&&◌, if◌then◌else◌, slice_index_or}
use Rattle.std.specs.List.{count_by}
use Rattle.std.specs.Ordering.{nat_cmp}
use Rattle.std.specs.declared.cmp.Ordering.{Ordering}
use Rattle.std.specs.declared.cmp.Reverse.{Reverse}
use Rattle.code_walk.specs.declared.walk.Slot.{Slot}

-- the greatest by this order is the least index
abbrev pub by_least : Reverse ℕ → Reverse ℕ → Ordering
by_least x y = nat_cmp y.0 x.0

-- how often the index is there
abbrev pub times_in : List (Reverse ℕ) → ℕ → ℕ
times_in indexes index = count_by (λ x. x.0 == index) indexes

abbrev pub bare_slot : Slot
bare_slot = record { shape = None; looked = false; clash = false }

-- it has a shape and was not yet looked at
abbrev pub is_waiting : Slot → Bool
is_waiting s = is_some s.shape && not s.looked

-- each index that waits is there once, and no other
abbrev pub AreWaiting : List Slot → List (Reverse ℕ) → Type 0
AreWaiting slots indexes = (i : ℕ) → times_in indexes i ≡ (if is_waiting (slice_index_or slots i bare_slot) then 1 else 0)

-- a slot that is looked at
abbrev pub looked_slot : Slot → Slot
looked_slot s = record { shape = s.shape; looked = true; clash = s.clash }
