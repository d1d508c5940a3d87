-- A walk that gives each index of a body its first shape, and notes where it is given another.
use Rattle.std.specs.Prelude.{Bool, true, false, ◌≡◌, ◌<◌, ℕ, zero, suc, ◌+◌, List, [], ◌∷◌, length, replicate, Option, Some, None, not, ◌&&◌, nat_lt, is_some}
use Rattle.std.specs.Prelude.{if◌then◌else◌, slice_set, slice_index_or}
use Rattle.tx_code.specs.Shapes.{Among}

-- an index and a shape that it is given
pub record Given (S : Type 0) : Type 0 where
  pub at : ℕ
  pub shape : S

abbrev pub given : {S : Type 0} → ℕ → S → Given S
given i s = record { at = i; shape = s }

-- what is walked: so many indexes, the shape of the first, a test of shapes, and what an index of a shape gives on
pub record Space (S : Type 0) : Type 0 where
  pub count : ℕ
  pub entry : S
  pub same : S → S → Bool
  pub gives : ℕ → S → List (Given S)

-- the test is that of equality
pub record Tests {S : Type 0} (w : Space S) : Type 0 where
  pub yes : (s t : S) → w.same s t ≡ true → s ≡ t
  pub itself : (s : S) → w.same s s ≡ true

-- an index is given this shape
pub data Has {S : Type 0} (w : Space S) : ℕ → S → Type 0 where
  at_first : 0 < w.count → Has w 0 w.entry
  goes_on : {i j : ℕ} {s t : S} → Has w i s → Among (given j t) (w.gives i s) → j < w.count → Has w j t

-- what is known of an index: its first shape, whether it was looked at, and whether it was given another shape
pub record Slot (S : Type 0) : Type 0 where
  pub shape : Option S
  pub looked : Bool
  pub clash : Bool

abbrev pub slot : {S : Type 0} → Option S → Bool → Bool → Slot S
slot s l c = record { shape = s; looked = l; clash = c }

abbrev pub bare : {S : Type 0} → Slot S
bare = slot None false false

abbrev pub slot_at : {S : Type 0} → List (Slot S) → ℕ → Slot S
slot_at slots i = slice_index_or slots i bare

abbrev pub noted_in : {S : Type 0} → Space S → Option S → Slot S → S → Slot S
noted_in w None old t = slot (Some t) old.looked old.clash
noted_in w (Some s) old t = if w.same s t then old else slot old.shape old.looked true

-- a slot that is given a shape: the first one stays
abbrev pub noted : {S : Type 0} → Space S → Slot S → S → Slot S
noted w old t = noted_in w old.shape old t

abbrev pub note : {S : Type 0} → Space S → List (Slot S) → Given S → List (Slot S)
note w slots g = if nat_lt g.at (length slots) then slice_set slots g.at (noted w (slot_at slots g.at) g.shape) else slots

abbrev pub note_all : {S : Type 0} → Space S → List (Slot S) → List (Given S) → List (Slot S)
note_all w slots [] = slots
note_all w slots (g ∷ gs) = note_all w (note w slots g) gs

abbrev pub seen_slot : {S : Type 0} → Slot S → Slot S
seen_slot s = slot s.shape true s.clash

abbrev pub gives_at : {S : Type 0} → Space S → ℕ → Option S → List (Given S)
gives_at w i None = []
gives_at w i (Some s) = w.gives i s

-- an index is looked at
abbrev pub look : {S : Type 0} → Space S → ℕ → List (Slot S) → List (Slot S)
look w i slots = note_all w (slice_set slots i (seen_slot (slot_at slots i))) (gives_at w i (slot_at slots i).shape)

abbrev pub waits : {S : Type 0} → Slot S → Bool
waits s = is_some s.shape && not s.looked

-- the lowest index with a shape that was not yet looked at, counted from n
abbrev pub lowest : {S : Type 0} → ℕ → List (Slot S) → Option ℕ
lowest n [] = None
lowest n (s ∷ ss) = if waits s then Some n else lowest (n + 1) ss

abbrev pub step_at : {S : Type 0} → Space S → List (Slot S) → Option ℕ → List (Slot S)
step_at w slots None = slots
step_at w slots (Some i) = look w i slots

abbrev pub step : {S : Type 0} → Space S → List (Slot S) → List (Slot S)
step w slots = step_at w slots (lowest 0 slots)

abbrev pub steps : {S : Type 0} → Space S → ℕ → List (Slot S) → List (Slot S)
steps w zero slots = slots
steps w (suc n) slots = step w (steps w n slots)

-- no index has a shape but the first
abbrev pub start : {S : Type 0} → Space S → List (Slot S)
start w = slice_set (replicate w.count bare) 0 (slot (Some w.entry) false false)

-- the walk's end
abbrev pub walked : {S : Type 0} → Space S → List (Slot S)
walked w = steps w w.count (start w)

-- two shapes that an index is given
pub record Two {S : Type 0} (w : Space S) (i : ℕ) : Type 0 where
  pub one : S
  pub other : S
  pub has_one : Has w i one
  pub has_other : Has w i other
  pub differ : one ≡ other → ⊥
