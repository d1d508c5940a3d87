-- The image that objects are linked to: which definitions are kept, and how they are numbered and placed.
use Rattle.std.specs.Prelude.{Bool, true, false, ◌≡◌, ℕ, zero, suc, ◌+◌, ◌-◌, ◌*◌, ◌/◌, ◌%◌, ◌^◌, List, [], ◌∷◌, ◌++◌, map, filter, Option, Some, None}
use Rattle.std.specs.Prelude.{unwrap_or, not, ◌&&◌, nat_eq, if◌then◌else◌, slice_get, codes}
use Rattle.std.specs.List.{list_any, flat_map, starts_with, position_from}
use Rattle.std.specs.Option.{option_map, option_map_or, option_and_then}
use Rattle.std.specs.Str.{bytes_eq}
use Rattle.tx_events.specs.declared.GlobalCell.{GlobalCell}
use Rattle.tx_code.specs.declared.instr.Instr.{Instr}
use Rattle.tx_code.specs.declared.instr.Instr.TheVariants.{CallIndirect, TCallIndirect, NewException}
use Rattle.tx_code.specs.declared.object.ObjCell.{ObjCell}
use Rattle.tx_code.specs.Objects.{BodyView, ClassView, GlobalView, FuncView, ObjectView}
use Rattle.tx_code.specs.WellFormed.{ascends, bytes_lt, is_defined, is_no_except, named_by_row}
use Rattle.tx_code.specs.Images.{ImageFuncView, ImageClassView, ImageView, main_type}
use Rattle.tx_code.specs.Renaming.{Numbering, itself, renamed_body}
use Rattle.tx_code.specs.Meaning.{Names}
use Rattle.tx_code.specs.Program.{func_address, global_address, names_of}

-- stands for what the objects do not have
abbrev pub absent : ℕ
absent = 4294967295

abbrev pub name_in : ObjectView → ℕ → List ℕ
name_in o n = unwrap_or (slice_get o.names n) []

-- ---- functions (C++14 3.2, 3.5)

-- a definition, in the object with this position
pub record FuncDef : Type 0 where
  pub at : ℕ
  pub object : ObjectView
  pub func : FuncView

abbrev pub func_def : ℕ → ObjectView → FuncView → FuncDef
func_def at o f = record { at = at; object = o; func = f }

-- all definitions, in the order of objects and in an object by symbol
abbrev pub func_defs : ℕ → List ObjectView → List FuncDef
func_defs at [] = []
func_defs at (o ∷ os) = map (func_def at o) (filter is_defined o.funcs) ++ func_defs (at + 1) os

abbrev pub func_symbol : FuncDef → List ℕ
func_symbol d = name_in d.object d.func.symbol

abbrev pub is_internal : FuncDef → Bool
is_internal d = nat_eq d.func.linkage 1

-- the definition of this symbol for all objects that have none of their own
abbrev pub defines : List ℕ → FuncDef → Bool
defines symbol d = not (is_internal d) && bytes_eq (func_symbol d) symbol

-- one that repeats an earlier one is not kept
abbrev pub repeats : (earlier : List FuncDef) → FuncDef → Bool
repeats earlier d = not (is_internal d) && list_any (defines (func_symbol d)) earlier

abbrev pub kept_with : List FuncDef → FuncDef → List FuncDef
kept_with kept d = if repeats kept d then kept else kept ++ d ∷ []

abbrev pub kept_after : List FuncDef → List FuncDef → List FuncDef
kept_after kept [] = kept
kept_after kept (d ∷ ds) = kept_after (kept_with kept d) ds

-- the functions of the image, by their numbers
abbrev pub kept_funcs : List ObjectView → List FuncDef
kept_funcs os = kept_after [] (func_defs 0 os)

-- the internal definition of a name in the object at this position
abbrev pub is_own : (at name : ℕ) → FuncDef → Bool
is_own at name d = nat_eq d.at at && is_internal d && nat_eq d.func.symbol name

abbrev pub or_else : Option ℕ → Option ℕ → Option ℕ
or_else None o = o
or_else (Some n) o = Some n

-- the number of the function that a name of an object stands for
abbrev pub func_number : List ObjectView → (at : ℕ) → ObjectView → (name : ℕ) → Option ℕ
func_number os at o name = or_else (position_from (is_own at name) 0 (kept_funcs os)) (position_from (defines (name_in o name)) 0 (kept_funcs os))

-- ---- globals

pub record GlobalDef : Type 0 where
  pub at : ℕ
  pub object : ObjectView
  pub global : GlobalView

abbrev pub global_def : ℕ → ObjectView → GlobalView → GlobalDef
global_def at o g = record { at = at; object = o; global = g }

abbrev pub is_string : ObjectView → GlobalView → Bool
is_string o g = starts_with nat_eq (name_in o g.symbol) (codes "string:")

abbrev pub is_defined_global : GlobalView → Bool
is_defined_global g = nat_eq g.defined 1

-- string literals lie behind the named globals of their object
abbrev pub placed_globals : ObjectView → List GlobalView
placed_globals o = filter (λ g. not (is_string o g)) (filter is_defined_global o.globals) ++ filter (is_string o) (filter is_defined_global o.globals)

-- the globals of the image, in the order in which they are placed
abbrev pub global_defs : ℕ → List ObjectView → List GlobalDef
global_defs at [] = []
global_defs at (o ∷ os) = map (global_def at o) (placed_globals o) ++ global_defs (at + 1) os

abbrev pub is_internal_global : GlobalDef → Bool
is_internal_global d = nat_eq d.global.linkage 1

abbrev pub global_symbol : GlobalDef → List ℕ
global_symbol d = name_in d.object d.global.symbol

abbrev pub is_own_global : (at name : ℕ) → GlobalDef → Bool
is_own_global at name d = nat_eq d.at at && is_internal_global d && nat_eq d.global.symbol name

abbrev pub defines_global : List ℕ → GlobalDef → Bool
defines_global symbol d = not (is_internal_global d) && bytes_eq (global_symbol d) symbol

-- rounded up to a multiple of 8
abbrev pub rounded : ℕ → ℕ
rounded n = (n + 7) / 8 * 8

-- where globals end that begin at this offset, each at the next multiple of 8
abbrev pub end_of : ℕ → List GlobalDef → ℕ
end_of start [] = start
end_of start (d ∷ ds) = end_of (start + rounded d.global.size) ds

-- the offset of the first of them that passes a test
abbrev pub offset_of : (GlobalDef → Bool) → ℕ → List GlobalDef → Option ℕ
offset_of test start [] = None
offset_of test start (d ∷ ds) = if test d then Some start else offset_of test (start + rounded d.global.size) ds

-- the offset of the global that a name of an object stands for
abbrev pub global_number : List ObjectView → (at : ℕ) → ObjectView → (name : ℕ) → Option ℕ
global_number os at o name = or_else (offset_of (is_own_global at name) 0 (global_defs 0 os)) (offset_of (defines_global (name_in o name)) 0 (global_defs 0 os))

-- a cell's bytes as a number; addresses are numbers modulo 2^64
abbrev pub cell_value : List ObjectView → (at : ℕ) → ObjectView → ObjCell → (what : ℕ) → ℕ
cell_value os at o c zero = c.value
cell_value os at o c (suc zero) = (global_address (unwrap_or (global_number os at o (c.symbol - 1)) absent) + c.value) % 2 ^ 64
cell_value os at o c (suc (suc n)) = func_address (unwrap_or (func_number os at o (c.symbol - 1)) absent)

abbrev pub image_cell : List ObjectView → (at : ℕ) → ObjectView → (start : ℕ) → ObjCell → GlobalCell
image_cell os at o start c = record { offset = start + c.offset; size = c.size; value = cell_value os at o c c.what }

abbrev pub image_cells : List ObjectView → (start : ℕ) → List GlobalDef → List GlobalCell
image_cells os start [] = []
image_cells os start (d ∷ ds) = map (image_cell os d.at d.object start) d.global.cells ++ image_cells os (start + rounded d.global.size) ds

-- ---- classes

pub record ClassDef : Type 0 where
  pub at : ℕ
  pub object : ObjectView
  pub class : ClassView

abbrev pub class_def : ℕ → ObjectView → ClassView → ClassDef
class_def at o c = record { at = at; object = o; class = c }

abbrev pub class_defs : ℕ → List ObjectView → List ClassDef
class_defs at [] = []
class_defs at (o ∷ os) = map (class_def at o) o.classes ++ class_defs (at + 1) os

abbrev pub class_name : ClassDef → List ℕ
class_name d = name_in d.object d.class.name

abbrev pub has_class_name : List ℕ → ClassDef → Bool
has_class_name name d = bytes_eq (class_name d) name

abbrev pub classes_with : List ClassDef → ClassDef → List ClassDef
classes_with kept d = if list_any (has_class_name (class_name d)) kept then kept else kept ++ d ∷ []

abbrev pub classes_after : List ClassDef → List ClassDef → List ClassDef
classes_after kept [] = kept
classes_after kept (d ∷ ds) = classes_after (classes_with kept d) ds

-- the classes of the image, by their numbers: a repeated one keeps its first number
abbrev pub kept_classes : List ObjectView → List ClassDef
kept_classes os = classes_after [] (class_defs 0 os)

abbrev pub class_number : List ObjectView → ObjectView → (name : ℕ) → Option ℕ
class_number os o name = position_from (has_class_name (name_in o name)) 0 (kept_classes os)

abbrev pub or_none : (ℕ → Option ℕ) → ℕ → Option ℕ
or_none number zero = None
or_none number (suc name) = number name

abbrev pub image_class : List ObjectView → ClassDef → ImageClassView
image_class os d = record {
  name = class_name d;
  base = or_none (class_number os d.object) d.class.base;
  slots = map
      (or_none (func_number os d.at d.object)) d.class.slots;
}

-- ---- types and bodies

abbrev pub named_types : Instr → List ℕ
named_types (CallIndirect ty n) = ty ∷ []
named_types (TCallIndirect ty n) = ty ∷ []
named_types (NewException ty) = ty ∷ []
named_types i = []

abbrev pub types_in_body : ObjectView → BodyView → List (List ℕ)
types_in_body o b = map (name_in o) (flat_map named_types b.code ++ flat_map named_by_row b.rows)

abbrev pub types_in_def : FuncDef → List (List ℕ)
types_in_def d = option_map_or (types_in_body d.object) d.func.plain [] ++ option_map_or (types_in_body d.object) d.func.safe []

-- the spellings of the types that the kept bodies name
abbrev pub types_named : List ObjectView → List (List ℕ)
types_named os = flat_map types_in_def (kept_funcs os)

abbrev pub type_number : (types : List (List ℕ)) → ObjectView → (name : ℕ) → Option ℕ
type_number types o name = position_from (bytes_eq (name_in o name)) 0 types

-- what the names of an object stand for
abbrev pub numbering : List ObjectView → (types : List (List ℕ)) → (at : ℕ) → ObjectView → Numbering
numbering os types at o = record {
  global = λ n. unwrap_or (global_number os at o n) absent;
  func = λ n. unwrap_or (func_number os at o n) absent;
  class = λ n. unwrap_or (class_number os o n) absent;
  ty = λ n. unwrap_or (type_number types o n) absent;
}

abbrev pub numbering_at : List ObjectView → (types : List (List ℕ)) → FuncDef → Numbering
numbering_at os types d = numbering os types d.at d.object

abbrev pub no_body : BodyView
no_body = record { code = []; rows = []; lines = [] }

abbrev pub plain_body : FuncView → BodyView
plain_body f = unwrap_or f.plain no_body

abbrev pub image_func : List ObjectView → (types : List (List ℕ)) → FuncDef → ImageFuncView
image_func os types d = record {
  symbol = func_symbol d;
  ty = name_in d.object d.func.ty;
  frame = d.func.frame;
  no_except = is_no_except d.func;
  plain = renamed_body (numbering_at os types d) (plain_body d.func);
  safe = option_map (renamed_body (numbering_at os types d)) d.func.safe;
  source = d.object.source;
}

-- ---- the image

-- an external `main()` of type `int()`
abbrev pub is_main_def : FuncDef → Bool
is_main_def d = nat_eq d.func.linkage 0 && bytes_eq (func_symbol d) (codes "main()") && bytes_eq (name_in d.object d.func.ty) main_type

-- the image that the objects are linked to
pub record ImageOf (os : List ObjectView) (i : ImageView) : Type 0 where
  pub types_ascend : ascends bytes_lt i.types ≡ true
  pub types : (ty : List ℕ) → list_any (bytes_eq ty) i.types ≡ list_any (bytes_eq ty) (types_named os)
  pub funcs : i.funcs ≡ map (image_func os i.types) (kept_funcs os)
  pub classes : i.classes ≡ map (image_class os) (kept_classes os)
  pub globals : i.globals ≡ image_cells os 0 (global_defs 0 os)
  pub size : i.size ≡ end_of 0 (global_defs 0 os)
  pub main : position_from is_main_def 0 (kept_funcs os) ≡ Some i.main

-- ---- the objects' own bodies

abbrev pub own_body : Bool → FuncDef → Option BodyView
own_body false d = Some (plain_body d.func)
own_body true d = d.func.safe

-- the program of the objects' own bodies, each with the names of its own object
abbrev pub own_names : List ObjectView → ImageView → Names
own_names os i = record {
  body = λ f safe. option_and_then (own_body safe) (slice_get (kept_funcs os) f);
  frame = (names_of i).frame;
  no_except = (names_of i).no_except;
  numbering = λ f. option_map_or (numbering_at os i.types) (slice_get (kept_funcs os) f) itself;
  global_address = (names_of i).global_address;
  func_address = (names_of i).func_address;
  class_address = (names_of i).class_address;
  stack_start = (names_of i).stack_start;
  stack_end = (names_of i).stack_end;
  called = (names_of i).called;
  spawned = (names_of i).spawned;
  slot_of = (names_of i).slot_of;
  cancels = (names_of i).cancels;
}
