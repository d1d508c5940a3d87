-- The linked program of typed units: which definitions are kept, their numbers and addresses.
use Rattle.std.specs.Prelude.{ℕ, zero, suc, ◌+◌, ◌==◌, Bool, true, false, not, cond, nat_lt, ◌&&◌, ◌||◌, List, [], ◌∷◌, ◌++◌, map, filter, take, Option, Some}
use Rattle.std.specs.Prelude.{None, is_some, option_map, option_and_then, unwrap_or, slice_get, ◌%◌, ◌^◌}
use Rattle.std.specs.List.{list_any}
use Rattle.cpp_tree.specs.tx_ints.declared.kinds.IntKind.{IntKind}
use Rattle.cpp_tree.specs.tx_ints.declared.kinds.IntKind.TheVariants.{ULong}
use Rattle.cpp_tree.specs.cpp_types.Typ.{Typ, typ, Signature, signature}
use Rattle.cpp_tree.specs.cpp_types.Class.{Class}
use Rattle.cpp_tree.specs.cpp_types.Conversion.{bases}
use Rattle.cpp_tree.specs.cpp_types.Equal.{name_eq}
use Rattle.cpp_tree.specs.cpp_types.Spelling.{function_spelling}
use Rattle.cpp_tree.specs.cpp_layout.Layout.{extent_of, next_multiple, frame_size, function_address, table_address}
use Rattle.cpp_tree.specs.cpp_layout.Frames.{offsets_after, item_extents}
use Rattle.cpp_tree.specs.declared.program.Linkage.{Linkage}
use Rattle.cpp_tree.specs.declared.program.Linkage.TheVariants.{External, Internal, Inline}
use Rattle.cpp_tree.specs.declared.program.FuncKind.{FuncKind}
use Rattle.cpp_tree.specs.declared.program.FuncKind.TheVariants.{Plain, Constructor, Destructor, ClosureCall}
use Rattle.cpp_tree.specs.declared.program.CellKind.{CellKind}
use Rattle.cpp_tree.specs.declared.program.CellKind.TheVariants.{Number, GlobalAddr, FuncAddr}
use Rattle.cpp_tree.specs.tx_events.declared.GlobalCell.{GlobalCell}
use Rattle.cpp_tree.specs.Trees.{literal}
use Rattle.cpp_tree.specs.Typing.{kind_in}
use Rattle.cpp_tree.specs.Units.{Func as UnitFunc, Global, Cell, Definition, SlotFunc, Unit as TypedUnit, TypedProgram}
use Rattle.cpp_tree.specs.tx_events.Memory.{globals_start}
use Rattle.src_mean.specs.Linked.{WordPlace, Func, Program}

-- a definition of a unit, by its place in the unit's list
pub record Def : Type 0 where
  pub unit : ℕ
  pub place : ℕ
  pub symbol : List ℕ
  pub internal : Bool

abbrev pub is_internal : Linkage → Bool
is_internal Internal = true
is_internal External = false
is_internal Inline = false

abbrev pub name_lt : List ℕ → List ℕ → Bool
name_lt xs [] = false
name_lt [] (y ∷ ys) = true
name_lt (x ∷ xs) (y ∷ ys) = nat_lt x y || ((x == y) && name_lt xs ys)

abbrev pub insert : Def → List Def → List Def
insert d [] = d ∷ []
insert d (e ∷ es) = cond (name_lt d.symbol e.symbol) (d ∷ e ∷ es) (e ∷ insert d es)

-- by symbol
abbrev pub sorted : List Def → List Def
sorted [] = []
sorted (d ∷ ds) = insert d (sorted ds)

abbrev pub funcs_defined : ℕ → ℕ → List UnitFunc → List Def
funcs_defined u n [] = []
funcs_defined u n (f ∷ fs) = cond (is_some f.body) (record { unit = u; place = n; symbol = f.symbol; internal = is_internal f.linkage }
    ∷ funcs_defined u (suc n) fs) (funcs_defined u (suc n) fs)

abbrev pub globals_defined : ℕ → ℕ → List Global → List Def
globals_defined u n [] = []
globals_defined u n (g ∷ gs) = cond g.defined (record { unit = u; place = n; symbol = g.symbol; internal = is_internal g.linkage }
    ∷ globals_defined u (suc n) gs) (globals_defined u (suc n) gs)

abbrev pub class_name : List Class → ℕ → List ℕ
class_name classes n = unwrap_or (option_map (λ (c : Class). c.name) (slice_get classes n)) []

abbrev pub classes_defined : List Class → ℕ → ℕ → List Definition → List Def
classes_defined classes u n [] = []
classes_defined classes u n (d ∷ ds) = record { unit = u; place = d.class; symbol = class_name classes d.class; internal = false }
    ∷ classes_defined classes u (suc n) ds

-- a string's symbol has a colon, which no name has but one behind another
abbrev pub is_string : Def → Bool
is_string d = name_eq (take 7 d.symbol) (115 ∷ 116 ∷ 114 ∷ 105 ∷ 110 ∷ 103 ∷ 58 ∷ [])

-- named globals first
abbrev pub strings_last : List Def → List Def
strings_last ds = filter (λ (d : Def). not (is_string d)) ds ++ filter is_string ds

abbrev pub all_funcs : ℕ → List TypedUnit → List Def
all_funcs u [] = []
all_funcs u (x ∷ xs) = sorted (funcs_defined u 0 x.funcs) ++ all_funcs (suc u) xs

abbrev pub all_globals : ℕ → List TypedUnit → List Def
all_globals u [] = []
all_globals u (x ∷ xs) = strings_last (sorted (globals_defined u 0 x.globals)) ++ all_globals (suc u) xs

abbrev pub all_classes : List Class → ℕ → List TypedUnit → List Def
all_classes classes u [] = []
all_classes classes u (x ∷ xs) = sorted (classes_defined classes u 0 x.classes) ++ all_classes classes (suc u) xs

abbrev pub same_def : Def → Def → Bool
same_def d e = name_eq d.symbol e.symbol && cond (d.internal || e.internal) ((d.unit == e.unit) && (d.internal && e.internal)) true

-- the first definition of each symbol
abbrev pub kept_of : List Def → List Def → List Def
kept_of seen [] = []
kept_of seen (d ∷ ds) = cond (list_any (same_def d) seen) (kept_of seen ds) (d ∷ kept_of (d ∷ seen) ds)

-- the number of the definition that is kept for this one
abbrev pub number_in : Def → List Def → ℕ
number_in d [] = 0
number_in d (e ∷ es) = cond (same_def d e) 0 (suc (number_in d es))

abbrev pub def_of_func : ℕ → ℕ → UnitFunc → Def
def_of_func u n f = record { unit = u; place = n; symbol = f.symbol; internal = is_internal f.linkage }

abbrev pub def_of_global : ℕ → ℕ → Global → Def
def_of_global u n g = record { unit = u; place = n; symbol = g.symbol; internal = is_internal g.linkage }

abbrev pub func_at : TypedProgram → ℕ → ℕ → Option UnitFunc
func_at t u n = option_and_then (λ (x : TypedUnit). slice_get x.funcs n) (slice_get t.units u)

abbrev pub global_at : TypedProgram → ℕ → ℕ → Option Global
global_at t u n = option_and_then (λ (x : TypedUnit). slice_get x.globals n) (slice_get t.units u)

abbrev pub kept_funcs : TypedProgram → List Def
kept_funcs t = kept_of [] (all_funcs 0 t.units)

abbrev pub kept_globals : TypedProgram → List Def
kept_globals t = kept_of [] (all_globals 0 t.units)

abbrev pub kept_classes : TypedProgram → List Def
kept_classes t = kept_of [] (all_classes t.classes 0 t.units)

-- where globals of these sizes lie, each at the next multiple of 8
abbrev pub global_offsets : ℕ → List ℕ → List ℕ
global_offsets from [] = []
global_offsets from (s ∷ ss) = next_multiple from 8 ∷ global_offsets (next_multiple from 8 + s) ss

abbrev pub global_size : TypedProgram → Def → ℕ
global_size t d = unwrap_or (option_map (λ (g : Global). (extent_of t.classes g.typ).size) (global_at t d.unit d.place)) 0

abbrev pub word_kind : Typ → IntKind
word_kind (typ f c v) = unwrap_or (kind_in f) ULong

abbrev pub is_marked : Typ → Bool
is_marked (typ f c v) = v

-- the words of a call: the first items of the frame
abbrev pub word_places : ℕ → List ℕ → List Typ → List WordPlace
word_places zero offsets items = []
word_places (suc n) [] items = []
word_places (suc n) (o ∷ os) [] = []
word_places (suc n) (o ∷ os) (t ∷ ts) = record { offset = o; kind = word_kind t; volatile = is_marked t } ∷ word_places n os ts

abbrev pub linked_func : (ℕ → ℕ → Bool) → List Class → Def → UnitFunc → Func
linked_func safe classes d f = record {
  unit = d.unit;
  size = frame_size (item_extents classes f.frame);
  places = offsets_after [] (item_extents classes f.frame);
  words = word_places f.words (offsets_after [] (item_extents classes f.frame)) f.frame;
  stops = f.declared.no_except;
  safe = safe d.unit d.place;
  body = unwrap_or f.body (literal 0);
}

abbrev pub is_plain_func : FuncKind → Bool
is_plain_func Plain = true
is_plain_func Constructor = false
is_plain_func Destructor = false
is_plain_func ClosureCall = false

-- a function type without transaction_safe
abbrev pub unsafe : Signature → Signature
unsafe (signature ps r safe) = signature ps r false

-- no member, and of this type, safety aside
abbrev pub has_type : List Class → Signature → UnitFunc → Bool
has_type classes sig f = is_plain_func f.kind && not (is_some f.class)
    && name_eq (function_spelling classes (unsafe sig) []) (function_spelling classes (unsafe f.declared.signature) [])

-- the first number whose address this is
abbrev pub numbered : ℕ → (ℕ → ℕ) → ℕ → List Def → Option (Def × ℕ)
numbered n address a [] = None
numbered n address a (d ∷ ds) = cond (address n == a) (Some (d, n)) (numbered (suc n) address a ds)

abbrev pub number_if : Bool → ℕ → Option ℕ
number_if true n = Some n
number_if false n = None

-- a function that is found by its symbol, where a slot names it
abbrev pub number_of_symbol : List ℕ → List Def → Option ℕ
number_of_symbol symbol ds = number_if (list_any (λ (d : Def). name_eq d.symbol symbol
    && not d.internal) ds) (number_in (record { unit = 0; place = 0; symbol = symbol; internal = false }) ds)

-- the class itself or one of its bases has this name
abbrev pub is_or_has_base : List Class → ℕ → List ℕ → Bool
is_or_has_base classes n name = name_eq (class_name classes n) name || list_any (λ (b : ℕ). name_eq (class_name classes b) name) (bases classes n)

-- the linked program, where `safe` says which functions have safe bodies and `symbol` what a slot names, if anything
abbrev pub linked : (ℕ → ℕ → Bool) → (SlotFunc → Option (List ℕ)) → (main : List ℕ) → TypedProgram → Program
linked safe symbol main t = record {
  number = λ u n. unwrap_or (option_map (λ (f : UnitFunc). number_in (def_of_func u n f) (kept_funcs t)) (func_at t u n)) 0;
  func = λ n. option_and_then (λ (d : Def). option_map (linked_func safe t.classes d) (func_at t d.unit d.place)) (slice_get (kept_funcs t) n);
  global = λ u n. globals_start + unwrap_or (option_and_then
      (λ (g : Global). slice_get (global_offsets 0 (map (global_size t) (kept_globals t))) (number_in (def_of_global u n g) (kept_globals t)))
      (global_at t u n)) 0;
  table = λ c. table_address (number_in (record { unit = 0; place = 0; symbol = class_name t.classes c; internal = false }) (kept_classes t));
  slot = λ a c s. option_and_then (λ (found : Def × ℕ). cond (is_or_has_base t.classes (found.0).place (class_name t.classes c))
      (option_and_then (λ (f : SlotFunc). option_and_then (λ (name : List ℕ). number_of_symbol name (kept_funcs t)) (symbol f))
      (option_and_then (λ (fs : List SlotFunc). slice_get fs s) (slice_get t.slots (found.0).place)))
      None) (numbered 0 table_address a (kept_classes t));
  pointed = λ a sig. option_and_then (λ (found : Def × ℕ). option_and_then (λ (f : UnitFunc). number_if (has_type t.classes sig f) found.1)
      (func_at t (found.0).unit (found.0).place)) (numbered 0 function_address a (kept_funcs t));
  classes = t.classes;
  main = number_in (record { unit = 0; place = 0; symbol = main; internal = false }) (kept_funcs t);
}

-- The first bytes of the globals

abbrev pub global_place : ℕ → List ℕ → List Global → ℕ
global_place n symbol [] = n
global_place n symbol (g ∷ gs) = cond (name_eq symbol g.symbol) n (global_place (suc n) symbol gs)

abbrev pub func_place : ℕ → List ℕ → List UnitFunc → ℕ
func_place n symbol [] = n
func_place n symbol (f ∷ fs) = cond (name_eq symbol f.symbol) n (func_place (suc n) symbol fs)

abbrev pub globals_in : TypedProgram → ℕ → List Global
globals_in t u = unwrap_or (option_map (λ (x : TypedUnit). x.globals) (slice_get t.units u)) []

abbrev pub funcs_in : TypedProgram → ℕ → List UnitFunc
funcs_in t u = unwrap_or (option_map (λ (x : TypedUnit). x.funcs) (slice_get t.units u)) []

-- an address constant names its symbol as its unit does
abbrev pub cell_value : TypedProgram → Program → ℕ → CellKind → ℕ → List ℕ → ℕ
cell_value t p u Number value symbol = value
cell_value t p u GlobalAddr value symbol = (p.global u (global_place 0 symbol (globals_in t u)) + value) % 2 ^ 64
cell_value t p u FuncAddr value symbol = function_address (p.number u (func_place 0 symbol (funcs_in t u)))

abbrev pub cells_at : TypedProgram → Program → ℕ → ℕ → List Cell → List GlobalCell
cells_at t p u offset [] = []
cells_at t p u offset (c ∷ cs) = record { offset = offset + c.offset; size = c.size; value = cell_value t p u c.what c.value c.symbol }
    ∷ cells_at t p u offset cs

abbrev pub all_cells : TypedProgram → Program → List Def → List ℕ → List GlobalCell
all_cells t p [] offsets = []
all_cells t p (d ∷ ds) [] = []
all_cells t p (d ∷ ds) (o
    ∷ os) = cells_at t p d.unit o (unwrap_or (option_map (λ (g : Global). g.init) (global_at t d.unit d.place)) []) ++ all_cells t p ds os

abbrev pub first_cells : TypedProgram → Program → List GlobalCell
first_cells t p = all_cells t p (kept_globals t) (global_offsets 0 (map (global_size t) (kept_globals t)))

-- how many bytes the globals take
abbrev pub globals_end : ℕ → List ℕ → ℕ
globals_end from [] = from
globals_end from (s ∷ ss) = globals_end (next_multiple from 8 + s) ss

abbrev pub globals_size : TypedProgram → ℕ
globals_size t = globals_end 0 (map (global_size t) (kept_globals t))
