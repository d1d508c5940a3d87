-- A setting that has grown: what stood in it stands there still, in its place.
use Rattle.std.specs.Prelude.{◌≡◌, ◌≤◌, ℕ, Bool, true, List, length, slice_get, Option, Some, option_and_then}
use Rattle.cpp_types.specs.Typ.{Typ}
use Rattle.cpp_types.specs.Class.{Class, InOrder, HoldsEarlier}
use Rattle.cpp_tree.specs.declared.roles.Position.{Position}
use Rattle.cpp_tree.specs.declared.roles.Role.{Role}
use Rattle.cpp_tree.specs.Trees.{Tree}
use Rattle.cpp_tree.specs.Typing.{Head}
use Rattle.cpp_tree.specs.Units.{Func, Global, SlotFunc}
use Rattle.cpp_tree.specs.Rows.{Setting, are_destructions}
use Rattle.cpp_tree.specs.WellFormed.{fits, zeroes, is_item, WellFormedBody}

-- What has grown

-- a complete class is the same; of one that is only declared, nothing but its number is kept
pub record ClassesGrow (old new : List Class) : Type 0 where
  pub complete : (n k : ℕ) (c : Class) → slice_get old n ≡ Some c → c.complete ≡ Some k → slice_get new n ≡ Some c
  pub many : length old ≤ length new

-- what a complete class holds by value is complete, and was so before it: the one half of `InOrder` that is asked for
pub record HeldEarlier (classes : List Class) : Type 0 where
  pub earlier : (n : ℕ) (c : Class) (k : ℕ) → slice_get classes n ≡ Some c → c.complete ≡ Some k → HoldsEarlier classes k c

-- the slot of a class
abbrev pub slot_at : List (List SlotFunc) → ℕ → ℕ → Option SlotFunc
slot_at slots n i = option_and_then (λ (xs : List SlotFunc). slice_get xs i) (slice_get slots n)

pub record SlotsGrow (old new : List (List SlotFunc)) : Type 0 where
  pub kept : (n i : ℕ) (x : SlotFunc) → slot_at old n i ≡ Some x → slot_at new n i ≡ Some x

-- what trees ask of a function to which they refer; its body, its text and its linkage are not among it
pub record SameFunc (f g : Func) : Type 0 where
  pub kind : g.kind ≡ f.kind
  pub class : g.class ≡ f.class
  pub name : g.declared.name ≡ f.declared.name
  pub signature : g.declared.signature ≡ f.declared.signature
  pub is_virtual : g.declared.is_virtual ≡ f.declared.is_virtual

pub record HasFunc (funcs : List Func) (i : ℕ) (f : Func) : Type 0 where
  pub func : Func
  pub at : slice_get funcs i ≡ Some func
  pub same : SameFunc f func

pub record FuncsGrow (old new : List Func) : Type 0 where
  pub kept : (i : ℕ) (f : Func) → slice_get old i ≡ Some f → HasFunc new i f

pub record HasGlobal (globals : List Global) (i : ℕ) (t : Typ) : Type 0 where
  pub global : Global
  pub at : slice_get globals i ≡ Some global
  pub typ : global.typ ≡ t

pub record GlobalsGrow (old new : List Global) : Type 0 where
  pub kept : (i : ℕ) (g : Global) → slice_get old i ≡ Some g → HasGlobal new i g.typ

-- the function at hand: its kind, its type, and the items of its frame
pub record FrameGrows (f g : Func) : Type 0 where
  pub kind : g.kind ≡ f.kind
  pub signature : g.declared.signature ≡ f.declared.signature
  pub frame : (i : ℕ) (t : Typ) → slice_get f.frame i ≡ Some t → slice_get g.frame i ≡ Some t

pub record Grows (old new : Setting) : Type 0 where
  pub classes : ClassesGrow old.classes new.classes
  pub slots : SlotsGrow old.slots new.slots
  pub funcs : FuncsGrow old.funcs new.funcs
  pub globals : GlobalsGrow old.globals new.globals
  pub function : FrameGrows old.function new.function

-- what the test of a body asks of its function
pub record SameBody (f g : Func) : Type 0 where
  pub kind : g.kind ≡ f.kind
  pub class : g.class ≡ f.class
  pub signature : g.declared.signature ≡ f.declared.signature
  pub words : g.words ≡ f.words
  pub params : g.params ≡ f.params
  pub frame : g.frame ≡ f.frame

-- Laws

abbrev pub GrowthStays : Type 0
GrowthStays = (s : Setting) → Grows s s

abbrev pub GrowthGoesOn : Type 0
GrowthGoesOn = (a b c : Setting) → Grows a b → Grows b c → Grows a c

-- lists of classes that are in order are such
abbrev pub OrderHolds : Type 0
OrderHolds = (classes : List Class) → InOrder classes → HeldEarlier classes

-- what fits, fits still: in each role, wherever it stands
abbrev pub FitsStill : Type 0
FitsStill = (old new : Setting) → HeldEarlier old.classes → Grows old new → (p : Position) (role : Role) (e : Tree) → fits old p role e ≡ true
    → fits new p role e ≡ true

-- the same of zeros in a result
abbrev pub ZeroesStill : Type 0
ZeroesStill = (old new : List Class) → HeldEarlier old → ClassesGrow old new → (volatile : Bool) (t : Typ) (e : Tree) → zeroes old volatile t e ≡ true
    → zeroes new volatile t e ≡ true

-- of the destructions of an object
abbrev pub DestructionsStill : Type 0
DestructionsStill = (old new : Setting) → HeldEarlier old.classes → Grows old new → (t : Typ) (hs : List Head) → are_destructions old t hs ≡ true
    → are_destructions new t hs ≡ true

-- and of an item of a frame
abbrev pub ItemsStill : Type 0
ItemsStill = (old new : List Class) → ClassesGrow old new → (t : Typ) → is_item old t ≡ true → is_item new t ≡ true

-- a well-formed body is well-formed still
abbrev pub BodyStill : Type 0
BodyStill = (old new : Setting) (body : Tree) → HeldEarlier old.classes → Grows old new → SameBody old.function new.function → WellFormedBody old body
    → WellFormedBody new body
