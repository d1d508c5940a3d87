-- The states that a thread of a sound image comes to: each frame stands at an index that its body reaches with the frame's
-- shape, and each frame below at a call, behind which its body goes on.
use Rattle.std.specs.Prelude.{Bool, true, ◌≡◌, ℕ, ◌+◌, List, [], ◌∷◌, length, Some, nat_lt, nat_le, ◌||◌, slice_get}
use Rattle.tx_events.specs.Thread.{is_empty}
use Rattle.tx_code.specs.declared.body.Row.{Row}
use Rattle.tx_code.specs.Objects.{BodyView}
use Rattle.tx_code.specs.Images.{ImageFuncView, ImageView}
use Rattle.tx_code.specs.Signatures.{gives_of}
use Rattle.tx_code.specs.Meaning.{Held, Free, Building, Flying, Home, Frame, State, Runs, Unwinds, Lost, covers, step_act}
use Rattle.tx_code.specs.Program.{body_in, names_of}
use Rattle.tx_code.specs.Shapes.{Hand, Empty, Builds, Flies, Shape, shape, Among, Reaches, landed, more}
use Rattle.tx_code.specs.Sound.{entry, signature, table_of, edge_right, has_edge, is_inside}

abbrev pub hand_of : Held → Hand
hand_of Free = Empty
hand_of (Building e) = Builds
hand_of (Flying e) = Flies

abbrev pub shape_of : Frame → Shape
shape_of f = shape (length f.words) f.nest.opens (length f.nest.caught) (hand_of f.nest.held)

-- the function and the body of a frame
pub record Spot (i : ImageView) (h : Home) : Type 0 where
  pub func : ImageFuncView
  pub is : slice_get i.funcs h.func ≡ Some func
  pub body : BodyView
  pub has : body_in func h.safe ≡ Some body

abbrev pub ReachesAt : (i : ImageView) (h : Home) → Spot i h → ℕ → Shape → Type 0
ReachesAt i h spot n s = Reaches (table_of i) (gives_of spot.func.ty) spot.body (entry (signature spot.func.ty)) n s

-- a frame that runs
pub record Ready (i : ImageView) (f : Frame) : Type 0 where
  pub spot : Spot i f.home
  pub reached : ReachesAt i f.home spot f.index (shape_of f)

-- a row takes an exception of a frame to an index that its body reaches with the shape that the row leaves
pub record Lands (i : ImageView) (f : Frame) (spot : Spot i f.home) (r : Row) : Type 0 where
  pub reached : ReachesAt i f.home spot r.target (landed r.what r.depth f.nest.opens (length f.nest.caught))
  pub depth : nat_le r.depth (length f.words) ≡ true
  pub edge : edge_right r.what f.nest.opens ≡ true
  pub known : nat_lt r.what 7 ≡ true

-- a frame that an exception is in, or may come to
pub record Unwindable (i : ImageView) (f : Frame) : Type 0 where
  pub spot : Spot i f.home
  pub rows : (r : Row) → Among r spot.body.rows → covers r f.index ≡ true → Lands i f spot r
  pub edge : (is_empty f.nest.opens || has_edge spot.body.rows f.index) ≡ true

-- a frame at a call that hands back so many words
pub record Suspended (i : ImageView) (f : Frame) (words : ℕ) : Type 0 where
  pub spot : Spot i f.home
  pub back : ReachesAt i f.home spot (f.index + 1) (shape (more words (length f.words)) f.nest.opens (length f.nest.caught) (hand_of f.nest.held))
  pub unwinds : Unwindable i f

-- the frames below one that hands back so many words and runs a safe body or not: where a frame is in a transaction, those above it run safe bodies
abbrev pub Below : (i : ImageView) → (words : ℕ) → (safe : Bool) → List Frame → Type 0
Below i words safe [] = Unit {0}
Below i words safe (f ∷ fs) = Suspended i f words × (is_inside f.home.safe f.nest.opens ≡ true → safe ≡ true)
    × Below i ((table_of i).gives f.home.func) f.home.safe fs

abbrev pub InShape : ImageView → State → Type 0
InShape i (Runs f rest) = Ready i f × Below i ((table_of i).gives f.home.func) f.home.safe rest
InShape i (Unwinds e f rest) = Unwindable i f × Below i ((table_of i).gives f.home.func) f.home.safe rest

-- the step is one that sound code does not come to
abbrev pub IsLost : ImageView → State → Type 0
IsLost i s = step_act (names_of i) s ≡ Lost
