-- The entries of a unit's object: what it defines and refers to.
use Rattle.std.specs.Prelude.{ℕ, zero, suc, ◌+◌, Bool, true, false, not, ◌&&◌, ◌||◌, nat_eq, cond, codes, List, [], ◌∷◌, ◌++◌, map, length, slice_get, Option}
use Rattle.std.specs.Prelude.{Some, None, is_some, unwrap_or, option_map}
use Rattle.std.specs.Option.{option_map_or}
use Rattle.cpp_tree.specs.cpp_types.Typ.{Typ, typ, func, Signature, signature}
use Rattle.cpp_tree.specs.cpp_types.Class.{Class, Member, Function}
use Rattle.cpp_tree.specs.cpp_types.Spelling.{spelling, listed}
use Rattle.cpp_tree.specs.cpp_types.declared.classes.Safety.{Safety}
use Rattle.cpp_tree.specs.cpp_types.declared.classes.Safety.TheVariants.{None as Undeclared}
use Rattle.cpp_tree.specs.cpp_layout.Layout.{extent_of, class_extent, has_class_pointer, frame_size, next_multiple}
use Rattle.cpp_tree.specs.cpp_layout.Measured.{member_offset}
use Rattle.cpp_tree.specs.cpp_layout.Frames.{item_extents}
use Rattle.cpp_tree.specs.declared.program.Linkage.{Linkage}
use Rattle.cpp_tree.specs.declared.program.Linkage.TheVariants.{External, Internal, Inline}
use Rattle.cpp_tree.specs.declared.program.FuncKind.{FuncKind}
use Rattle.cpp_tree.specs.declared.program.FuncKind.TheVariants.{Plain, Constructor, Destructor, ClosureCall}
use Rattle.cpp_tree.specs.declared.program.CellKind.{CellKind}
use Rattle.cpp_tree.specs.declared.program.CellKind.TheVariants.{Number, GlobalAddr, FuncAddr}
use Rattle.cpp_tree.specs.Units.{Func, Cell, Global, Definition, SlotFunc, Unit, TypedProgram}
use Rattle.link_faults.specs.Faults.{ClassRecord, MemberRecord}
use Rattle.unit_entries.specs.Records.{FuncRecord, CellRecord, GlobalRecord}
use Rattle.unit_entries.specs.Uses.{Marks, is_set, is_of_class, slot_function, slot_index, slots_in, marks_of}

-- ---- functions

-- a function's type without its safety
abbrev pub function_text : List Class → Signature → List ℕ
function_text classes (signature ps r safe) = spelling classes (typ (func (signature ps r false)) false false)

-- constructors and destructors count as functions without a result
abbrev pub result_text : List Class → FuncKind → Typ → List ℕ
result_text classes Plain r = spelling classes r
result_text classes ClosureCall r = spelling classes r
result_text classes Constructor r = codes "void"
result_text classes Destructor r = codes "void"

-- that of a member function has `this` as its first parameter
abbrev pub member_text : List Class → FuncKind → Signature → List ℕ
member_text classes kind (signature ps r safe) = result_text classes kind r ++ (codes "(this" ++ (listed classes true ps ++ codes ")"))

abbrev pub type_text : List Class → Option ℕ → FuncKind → Signature → List ℕ
type_text classes None kind s = function_text classes s
type_text classes (Some class) kind s = member_text classes kind s

abbrev pub linkage_number : Linkage → ℕ
linkage_number External = 0
linkage_number Internal = 1
linkage_number Inline = 2

abbrev pub is_inline : Linkage → Bool
is_inline Inline = true
is_inline linkage = false

-- the definition text of the first class of these that is this one; else another text
abbrev pub class_text : Option ℕ → List Definition → List ℕ → List ℕ
class_text class [] text = text
class_text class (d ∷ ds) text = cond (is_of_class d.class class) d.text (class_text class ds text)

-- a function that no text declares is defined by the text of its class
abbrev pub definition_text : List Definition → Func → List ℕ
definition_text defs f = cond (f.implicit && nat_eq (length f.text) 0) (class_text f.class defs f.text) f.text

abbrev pub inline_text : List Definition → Func → Option (List ℕ)
inline_text defs f = cond (is_some f.body && is_inline f.linkage) (Some (definition_text defs f)) None

abbrev pub is_declared : Safety → Bool
is_declared Undeclared = false
is_declared _ = true

abbrev pub is_safe_signature : Signature → Bool
is_safe_signature (signature ps r safe) = safe

-- declared safe, or considered so because of what it overrides
abbrev pub is_promised : Function → Bool
is_promised f = is_safe_signature f.signature || (f.considered || is_declared f.safety)

abbrev pub frame_of : List Class → Func → ℕ
frame_of classes f = cond (is_some f.body) (frame_size (item_extents classes f.frame)) 0

-- of a function with this index; these of the unit's functions are safe
abbrev pub func_entry_of : List Class → List Definition → Marks → List Bool → ℕ → Func → FuncRecord
func_entry_of classes defs marks safe i f = record {
  entry =
      record {
        symbol = f.symbol;
        ty = type_text classes f.class f.kind f.declared.signature;
        linkage = linkage_number f.linkage;
        defined = is_some f.body;
        text =
            inline_text defs f;
        wanted_safe = is_promised f.declared || is_set marks.wanted i;
        safe = is_some f.body && is_set safe i;
      };
  no_except =
      f.declared.no_except;
  frame = frame_of classes f;
}

-- what is defined has an entry, and what is referred to and is not pure
abbrev pub has_entry : Marks → ℕ → Func → Bool
has_entry marks i f = is_some f.body || (is_set marks.funcs i && not f.declared.pure_virtual)

abbrev pub func_entries_at : List Class → List Definition → Marks → List Bool → ℕ → Func → List FuncRecord
func_entries_at classes defs marks safe i f = cond (has_entry marks i f) (func_entry_of classes defs marks safe i f ∷ []) []

-- those of the functions from an index on
abbrev pub funcs_from : List Class → List Definition → Marks → List Bool → ℕ → List Func → List FuncRecord
funcs_from classes defs marks safe i [] = []
funcs_from classes defs marks safe i (f ∷ fs) = func_entries_at classes defs marks safe i f ++ funcs_from classes defs marks safe (i + 1) fs

abbrev pub unit_funcs : TypedProgram → Unit → List Bool → List FuncRecord
unit_funcs p u safe = funcs_from p.classes u.classes (marks_of p u safe) safe 0 u.funcs

-- ---- globals

abbrev pub global_linkage : Linkage → ℕ
global_linkage External = 0
global_linkage Internal = 1
global_linkage Inline = 0

abbrev pub kind_number : CellKind → ℕ
kind_number Number = 0
kind_number GlobalAddr = 1
kind_number FuncAddr = 2

abbrev pub cell_symbol : CellKind → List ℕ → Option (List ℕ)
cell_symbol Number symbol = None
cell_symbol GlobalAddr symbol = Some symbol
cell_symbol FuncAddr symbol = Some symbol

abbrev pub cell_entry_of : Cell → CellRecord
cell_entry_of c = record { offset = c.offset; size = c.size; what = kind_number c.what; value = c.value; symbol = cell_symbol c.what c.symbol }

abbrev pub global_entry_of : List Class → Global → GlobalRecord
global_entry_of classes g = record {
  entry = record {
    symbol = g.symbol;
    ty = spelling classes g.typ;
    linkage = global_linkage g.linkage;
    defined = g.defined;
    text = None;
    wanted_safe = false;
    safe = false;
  };
  size = cond g.defined (extent_of classes g.typ).size 0;
  cells =
      cond g.defined (map cell_entry_of g.init) [];
}

-- what is defined has an entry, and what is referred to
abbrev pub global_entries_at : List Class → Marks → ℕ → Global → List GlobalRecord
global_entries_at classes marks i g = cond (g.defined || is_set marks.globals i) (global_entry_of classes g ∷ []) []

abbrev pub globals_from : List Class → Marks → ℕ → List Global → List GlobalRecord
globals_from classes marks i [] = []
globals_from classes marks i (g ∷ gs) = global_entries_at classes marks i g ++ globals_from classes marks (i + 1) gs

abbrev pub unit_globals : TypedProgram → Unit → List Bool → List GlobalRecord
unit_globals p u safe = globals_from p.classes (marks_of p u safe) 0 u.globals

-- ---- classes

-- of a class without a class pointer
abbrev pub no_pointer : ℕ
no_pointer = 4294967295

abbrev pub no_class : Class
no_class = record { name = []; base = None; members = []; functions = []; is_final = false; complete = None }

abbrev pub class_at : List Class → ℕ → Class
class_at classes n = unwrap_or (slice_get classes n) no_class

abbrev pub end_of_base : List Class → Option ℕ → ℕ
end_of_base classes None = 0
end_of_base classes (Some b) = next_multiple (class_extent classes b).size 8

-- behind the base of the first class of a chain of so many bases that has the class pointer
abbrev pub pointer_from : ℕ → List Class → ℕ → ℕ
pointer_from zero classes n = no_pointer
pointer_from (suc most) classes n = cond (has_class_pointer classes n) (end_of_base classes (class_at classes n).base)
    (option_map_or (λ (b : ℕ). pointer_from most classes b) (class_at classes n).base no_pointer)

abbrev pub pointer_offset : List Class → ℕ → ℕ
pointer_offset classes n = pointer_from (length classes) classes n

abbrev pub base_name : List Class → Option ℕ → Option (List ℕ)
base_name classes None = None
base_name classes (Some b) = Some (class_at classes b).name

abbrev pub member_entry_of : List Class → ℕ → ℕ → Member → MemberRecord
member_entry_of classes n i m = record { name = m.name; offset = member_offset classes n (class_at classes n) i m; ty = spelling classes m.typ }

abbrev pub members_from : List Class → ℕ → ℕ → List Member → List MemberRecord
members_from classes n i [] = []
members_from classes n i (m ∷ ms) = member_entry_of classes n i m ∷ members_from classes n (i + 1) ms

-- the symbol of the function in a slot; none where it is pure
abbrev pub symbol_at : List Func → Option ℕ → Option (List ℕ)
symbol_at funcs None = None
symbol_at funcs (Some i) = option_map (λ (f : Func). f.symbol) (slice_get funcs i)

abbrev pub is_pure : Option Function → Bool
is_pure None = false
is_pure (Some f) = f.pure_virtual

abbrev pub slot_symbol : List Class → List Func → SlotFunc → Option (List ℕ)
slot_symbol classes funcs s = cond (is_pure (slot_function classes s)) None (symbol_at funcs (slot_index classes funcs s))

abbrev pub class_entry_of : TypedProgram → List Func → Definition → ClassRecord
class_entry_of p funcs d = record {
  name = (class_at p.classes d.class).name;
  size = (class_extent p.classes d.class).size;
  align =
      (class_extent p.classes d.class).align;
  base = base_name p.classes (class_at p.classes d.class).base;
  pointer = pointer_offset p.classes d.class;
  text =
      d.text;
  members = members_from p.classes d.class 0 (class_at p.classes d.class).members;
  slots =
      map (slot_symbol p.classes funcs) (slots_in p.slots d.class);
}

abbrev pub unit_classes : TypedProgram → Unit → List ClassRecord
unit_classes p u = map (class_entry_of p u.funcs) u.classes
