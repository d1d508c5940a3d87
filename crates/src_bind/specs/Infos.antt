-- What the records of functions show.
use Rattle.std.specs.Prelude.{◌≡◌, ◌≤◌, ℕ, Bool, false, ◌&&◌, List, [], map, Option, Some, None, slice_get, option_and_then, unwrap_or, is_some}
use Rattle.std.specs.Global.{Vec}
use Rattle.cpp_tree.specs.cpp_types.Typ.{Signature}
use Rattle.cpp_tree.specs.cpp_types.Class.{Class}
use Rattle.cpp_tree.specs.cpp_types.Equal.{name_eq}
use Rattle.cpp_tree.specs.cpp_types.Spelling.{function_spelling}
use Rattle.cpp_tree.specs.cpp_layout.Layout.{frame_size}
use Rattle.cpp_tree.specs.cpp_layout.Frames.{AllComplete, item_extents}
use Rattle.cpp_tree.specs.cpp_layout.declared.frames.TheConstants.{GREATEST_FRAME}
use Rattle.cpp_tree.specs.declared.arena.TNodeId.{TNodeId}
use Rattle.cpp_tree.specs.declared.program.TFunc.{TFunc}
use Rattle.cpp_tree.specs.declared.program.UnitTree.{UnitTree}
use Rattle.cpp_tree.specs.declared.program.Program.{Program}
use Rattle.cpp_tree.specs.Trees.{Tree}
use Rattle.cpp_tree.specs.Arena.{tree_at, trees_of}
use Rattle.cpp_tree.specs.Typing.{passes}
use Rattle.cpp_tree.specs.Units.{Func as UnitFunc, TypedProgram}
use Rattle.src_mean.specs.Linked.{WordPlace, Func}
use Rattle.src_mean.specs.Links.{Def, func_at, has_type, unsafe}
use Rattle.src_bind.specs.declared.infos.WordAt.{WordAt}
use Rattle.src_bind.specs.declared.infos.FuncInfo.{FuncInfo}

abbrev pub trees_found : Option UnitTree → List Tree
trees_found None = []
trees_found (Some u) = trees_of u.nodes.items

-- the trees of a unit's nodes
abbrev pub trees_in : Program → ℕ → List Tree
trees_in p u = trees_found (slice_get p.units.items u)

abbrev pub word_of : WordAt → WordPlace
word_of w = record { offset = w.offset; kind = w.kind; volatile = w.volatile }

-- what a record shows of a function
abbrev pub info_of : Program → FuncInfo → Func
info_of p i = record {
  unit = i.unit;
  size = i.size;
  places = i.places.items;
  words = map word_of i.words.items;
  stops = i.stops;
  safe = i.safe;
  body = tree_at
      (trees_in p i.unit) i.body;
}

-- it is no member, and of this type, safety aside
abbrev pub is_of_type : List Class → Signature → FuncInfo → Bool
is_of_type classes sig i = i.free && name_eq (function_spelling classes (unsafe sig) []) i.ty.items

-- the function with these indexes, as it stands in its unit, and the node of its body
abbrev pub own_func : Program → ℕ → ℕ → Option TFunc
own_func p u n = option_and_then (λ (x : UnitTree). slice_get x.funcs.items n) (slice_get p.units.items u)

abbrev pub body_at : Program → ℕ → ℕ → Option TNodeId
body_at p u n = option_and_then (λ (f : TFunc). f.body) (own_func p u n)

abbrev pub body_found : Program → Def → Option TNodeId
body_found p d = body_at p d.unit d.place

-- a definition is of a function of this type
abbrev pub type_found : TypedProgram → Signature → Def → Bool
type_found t sig d = passes (has_type t.classes sig) (func_at t d.unit d.place)

-- what a table says of a unit's function
abbrev pub says : List (Vec Bool) → ℕ → ℕ → Bool
says rows u n = unwrap_or (option_and_then (λ (row : Vec Bool). slice_get row.items n) (slice_get rows u)) false

-- the function has a body
abbrev pub has_body : TypedProgram → Def → Bool
has_body t d = passes (λ (f : UnitFunc). is_some f.body) (func_at t d.unit d.place)

-- the items of its frame have sizes, and it is not too large
pub record HasFrame (t : TypedProgram) (d : Def) : Type 0 where
  pub complete : (f : UnitFunc) → func_at t d.unit d.place ≡ Some f → AllComplete t.classes f.frame
  pub within : (f : UnitFunc) → func_at t d.unit d.place ≡ Some f → frame_size (item_extents t.classes f.frame) ≤ GREATEST_FRAME
