-- The rows of a body, halved again and again, as the code finds those that cover an index.
use Rattle.std.specs.Prelude.{Bool, true, false, ◌≡◌, ◌<◌, ⊤, ℕ, List, [], ◌∷◌, ◌++◌, length, map, Option, Some, None, not, ◌&&◌, ◌||◌, nat_lt, nat_le, nat_eq}
use Rattle.std.specs.Prelude.{if◌then◌else◌}
use Rattle.std.specs.List.{list_all}
use Rattle.std.specs.Option.{option_map_or}
use Rattle.tx_events.specs.Thread.{Open}
use Rattle.tx_code.specs.declared.body.Row.{Row}
use Rattle.tx_code.specs.Meaning.{covers}
use Rattle.tx_code.specs.Shapes as shapes
use Rattle.tx_code.specs.Shapes.{landed}
use Rattle.code_walk.specs.declared.shapes.Shape.{Shape}
use Rattle.code_walk.specs.declared.rows.Span.{Span}
use Rattle.code_walk.specs.declared.rows.Key.{Key}
use Rattle.code_walk.specs.declared.rows.RowTree.{RowTree, Empty, Leaf, Fork'}
use Rattle.code_walk.specs.declared.walk.Slot.{Slot}
use Rattle.code_walk.specs.Walk as walk
use Rattle.code_walk.specs.Walk.{Space, slot_at}
use Rattle.code_walk.specs.Nests.{nest}
use Rattle.code_walk.specs.Slots.{slot_of, tested}

abbrev pub rows_of : RowTree → List Row
rows_of Empty = []
rows_of (Leaf row key) = row ∷ []
rows_of (Fork' p l q r span key) = rows_of l ++ rows_of r

abbrev pub may_cover : Span → ℕ → Bool
may_cover span i = nat_le span.first i && nat_lt i span.behind

abbrev pub all_cover : Span → ℕ → Bool
all_cover span i = nat_le span.last i && nat_lt i span.until

-- no row covers an index outside, and each one covers an index within
pub record SpanOf (span : Span) (rows : List Row) : Type 0 where
  pub outside : (i : ℕ) → may_cover span i ≡ false → list_all (λ r. not (covers r i)) rows ≡ true
  pub within : (i : ℕ) → all_cover span i ≡ true → list_all (λ r. covers r i) rows ≡ true

abbrev pub is_key : Option Key → Shape → Bool
is_key None s = false
is_key (Some k) s = nat_eq k.nest s.nest && nat_eq k.handlers s.handlers

-- the slot has this shape, or knows that there are two
abbrev pub knows : walk.Slot shapes.Shape → shapes.Shape → Bool
knows a t = option_map_or (λ s. tested.same s t || a.clash) a.shape false

-- to note this shape at the index changes nothing
abbrev pub settled : List (walk.Slot shapes.Shape) → ℕ → shapes.Shape → Bool
settled ss at t = if nat_lt at (length ss) then knows (slot_at ss at) t else true

-- the row has given its target the shape for this nest and so many handlers
abbrev pub row_settled : List (walk.Slot shapes.Shape) → List Open → ℕ → Row → Bool
row_settled ss opens handlers r = settled ss r.target (landed r.what r.depth opens handlers)

abbrev pub KeySettled : List (List Open) → List (walk.Slot shapes.Shape) → List Row → Option Key → Type 0
KeySettled t ss rows None = ⊤
KeySettled t ss rows (Some k) = (k.nest < length t) × (list_all (row_settled ss (nest t k.nest) k.handlers) rows ≡ true)

-- each part's span is that of its rows, and with its key its rows have given their shapes
abbrev pub Right : List (List Open) → List (walk.Slot shapes.Shape) → RowTree → Type 0
Right t ss Empty = ⊤
Right t ss (Leaf row key) = KeySettled t ss (row ∷ []) key
Right t ss (Fork' p l q r span key) = Right t ss l × Right t ss r × SpanOf span (rows_of l ++ rows_of r) × KeySettled t ss (rows_of l ++ rows_of r) key

-- a tree of the same rows that is right for the slots of now
pub record Held (t : List (List Open)) (ss : List Slot) (old new : RowTree) : Type 0 where
  pub right : Right t (map (slot_of t) ss) new
  pub rows : rows_of new ≡ rows_of old
