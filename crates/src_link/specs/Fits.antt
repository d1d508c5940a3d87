-- Programs whose frames and globals have sizes that are not too large.
use Rattle.std.specs.Prelude.{◌≡◌, ◌≤◌, true, List, [], ◌∷◌, is_some}
use Rattle.cpp_types.specs.Class.{Class}
use Rattle.cpp_types.specs.Typ.{Typ}
use Rattle.cpp_types.specs.Conversion.{form_of}
use Rattle.cpp_layout.specs.Layout.{extent_of, frame_size}
use Rattle.cpp_layout.specs.Measured.{HoldsComplete}
use Rattle.cpp_layout.specs.Frames.{AllComplete, item_extents}
use Rattle.cpp_layout.specs.declared.extents.TheConstants.{GREATEST_SIZE}
use Rattle.cpp_layout.specs.declared.frames.TheConstants.{GREATEST_FRAME}
use Rattle.cpp_tree.specs.Units.{Func as UnitFunc, Global, Unit as TypedUnit}

-- a frame of these items
pub record FrameFits (classes : List Class) (items : List Typ) : Type 0 where
  pub complete : AllComplete classes items
  pub within : frame_size (item_extents classes items) ≤ GREATEST_FRAME

pub record GlobalFits (classes : List Class) (g : Global) : Type 0 where
  pub complete : HoldsComplete classes (form_of g.typ)
  pub within : (extent_of classes g.typ).size ≤ GREATEST_SIZE

-- the functions that have bodies have frames
abbrev pub FramesFit : List Class → List UnitFunc → Type 0
FramesFit classes [] = Unit {0}
FramesFit classes (f ∷ fs) = (is_some f.body ≡ true → FrameFits classes f.frame) × FramesFit classes fs

-- the globals that are defined have sizes
abbrev pub GlobalsFit : List Class → List Global → Type 0
GlobalsFit classes [] = Unit {0}
GlobalsFit classes (g ∷ gs) = (g.defined ≡ true → GlobalFits classes g) × GlobalsFit classes gs

abbrev pub UnitsFit : List Class → List TypedUnit → Type 0
UnitsFit classes [] = Unit {0}
UnitsFit classes (x ∷ xs) = FramesFit classes x.funcs × GlobalsFit classes x.globals × UnitsFit classes xs
