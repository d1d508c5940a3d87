-- A stack whose items are those of several frames: the items of the innermost frame and the items below.
use Rattle.std.specs.Prelude.{Bool, true, false, [], ◌∷◌, Option, Some, None, ℕ, ◌+◌, ◌≤◌, List, reverse, take, drop, vec_len, vec_capacity}
use Rattle.vm_frames.specs.declared.stack.Stack.{Stack}

-- what lies from a position on, the top first
unfoldable pub above : {A : Type 0} → ℕ → List A → List A
above n xs = reverse (drop n xs)

-- the items of the innermost frame, the top first
abbrev pub own : {A : Type 0} → Stack A → List A
own s = above s.base s.items.items

-- those of the other frames, the outermost first
abbrev pub under : {A : Type 0} → Stack A → List A
under s = take s.base s.items.items

-- there is room for so many more
abbrev pub HasRoom : {A : Type 0} → Stack A → ℕ → Type 0
HasRoom s n = vec_len s.items + n ≤ vec_capacity s.items

-- with an item more, if there is one
abbrev pub put : {A : Type 0} → Option A → List A → List A
put None xs = xs
put (Some x) xs = x ∷ xs

abbrev pub has_two : {A : Type 0} → List A → Bool
has_two [] = false
has_two (x ∷ []) = false
has_two (x ∷ y ∷ xs) = true

-- with the two top ones exchanged
abbrev pub swapped : {A : Type 0} → List A → List A
swapped [] = []
swapped (x ∷ []) = x ∷ []
swapped (x ∷ y ∷ xs) = y ∷ x ∷ xs
