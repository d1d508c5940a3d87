-- The walk's slots as the code has them, and the body that is walked.
use Rattle.std.specs.Prelude.{Bool, true, ◌≡◌, ℕ, List, [], ◌∷◌, length, map}
use Rattle.std.specs.List.{list_all}
use Rattle.std.specs.Option.{option_map, option_map_or}
use Rattle.tx_events.specs.Thread.{Open}
use Rattle.tx_code.specs.Objects.{BodyView, body_view}
use Rattle.tx_code.specs.Views.{image_view}
use Rattle.tx_code.specs.Shapes as shapes
use Rattle.tx_code.specs.Shapes.{Table}
use Rattle.tx_code.specs.Sound.{Signature, table_of}
use Rattle.code_walk.specs.declared.walk.Slot.{Slot}
use Rattle.code_walk.specs.declared.walk.Judged.{Judged}
use Rattle.code_walk.specs.declared.walk.Walked.{Walked}
use Rattle.code_walk.specs.declared.walk.Targets.{Targets}
use Rattle.code_walk.specs.declared.walk.Targets.TheVariants.{Nowhere, One, Two}
use Rattle.code_walk.specs.Walk as walk
use Rattle.code_walk.specs.Walk.{Space, Given, slot, note_all, walked}
use Rattle.code_walk.specs.Bodies.{same_shape, space}
use Rattle.code_walk.specs.Nests.{Extends}
use Rattle.code_walk.specs.ShapeViews.{shape_of, fits}

-- a slot, by the table of nests
abbrev pub slot_of : List (List Open) → Slot → walk.Slot shapes.Shape
slot_of table s = slot (option_map (shape_of table) s.shape) s.looked s.clash

-- its shape's nest is of the table
abbrev pub slot_fits : List (List Open) → Slot → Bool
slot_fits table s = option_map_or (fits table) s.shape true

-- the test of shapes, for notes
abbrev pub tested : Space shapes.Shape
tested = record { count = 0; entry = shapes.shape 0 [] 0 shapes.Empty; same = same_shape; gives = λ i s. [] }

abbrev pub targets_of : Targets → List ℕ
targets_of Nowhere = []
targets_of (One n) = n ∷ []
targets_of (Two n m) = n ∷ m ∷ []

-- all that is given is noted in the slots
pub record Notes (table : List (List Open)) (old new : List Slot) (gs : List (Given shapes.Shape)) : Type 0 where
  pub slots : map (slot_of table) new ≡ note_all tested (map (slot_of table) old) gs
  pub fit : list_all (slot_fits table) new ≡ true
  pub count : length new ≡ length old

-- ---- the body that is judged

abbrev pub table_in : Judged → Table
table_in j = table_of (image_view j.image.now)

abbrev pub signature_in : Judged → Signature
signature_in j = record { takes = j.takes; gives = j.gives }

abbrev pub view_in : Judged → BodyView
view_in j = body_view j.body.now

abbrev pub space_in : Judged → Space shapes.Shape
space_in j = space (table_in j) (signature_in j) (view_in j)

-- slots and nests after a step of the walk, which leads to these slots
pub record Steps (old new : List (List Open)) (before after : List Slot) (next : List (walk.Slot shapes.Shape)) : Type 0 where
  pub more : Extends old new
  pub slots : map (slot_of new) after ≡ next
  pub fit : list_all (slot_fits new) after ≡ true
  pub count : length after ≡ length before

-- the walk's end
pub record Ended (j : Judged) (w : Walked) : Type 0 where
  pub slots : map (slot_of w.nests) w.slots.items ≡ walked (space_in j)
  pub fit : list_all (slot_fits w.nests) w.slots.items ≡ true
  pub count : length w.slots.items ≡ length j.body.now.code.items
