-- The conditions that an object keeps: those that speak of the object alone and not of the bytes that spell it.
use Rattle.std.specs.Prelude.{Bool, true, false, ◌≡◌, ℕ, zero, suc, ◌+◌, ◌*◌, ◌%◌, ◌/◌, ◌^◌, List, [], ◌∷◌, ◌++◌, length, Option, Some, None, not, ◌&&◌, ◌||◌}
use Rattle.std.specs.Prelude.{nat_lt, nat_le, nat_eq, is_some, if◌then◌else◌}
use Rattle.std.specs.List.{list_all, list_any, flat_map}
use Rattle.std.specs.Option.{option_map_or}
use Rattle.std.specs.Ordering.{is_lt, nat_cmp}
use Rattle.std.specs.Str.{bytes_eq}
use Rattle.std.specs.Cmp.Lexicographic.{slice_cmp}
use Rattle.tx_code.specs.declared.instr.Instr.{Instr}
use Rattle.tx_code.specs.declared.instr.Instr.TheVariants.{GlobalAddr, FuncAddr, ClassAddr, Call, TCall, CallIndirect, TCallIndirect, Slot, NewException}
use Rattle.tx_code.specs.declared.body.Row.{Row}
use Rattle.tx_code.specs.declared.body.LineRow.{LineRow}
use Rattle.tx_code.specs.declared.object.ObjMember.{ObjMember}
use Rattle.tx_code.specs.declared.object.ObjCell.{ObjCell}
use Rattle.tx_code.specs.declared.object.TheConstants.{LONGEST_NAME}
use Rattle.tx_code.specs.Objects.{BodyView, ClassView, GlobalView, FuncView, ObjectView}

-- ---- order

abbrev pub bytes_lt : List ℕ → List ℕ → Bool
bytes_lt a b = is_lt (slice_cmp nat_cmp a b)

-- each item is below the next one
abbrev pub ascends_from : {A : Type 0} → (A → A → Bool) → A → List A → Bool
ascends_from below x [] = true
ascends_from below x (y ∷ ys) = below x y && ascends_from below y ys

abbrev pub ascends : {A : Type 0} → (A → A → Bool) → List A → Bool
ascends below [] = true
ascends below (x ∷ xs) = ascends_from below x xs

abbrev pub ascends_by : {A : Type 0} → (A → ℕ) → List A → Bool
ascends_by key xs = ascends (λ a b. nat_lt (key a) (key b)) xs

-- ---- names, where the object has n of them

-- the number of a name
abbrev pub is_name : (n : ℕ) → ℕ → Bool
is_name n i = nat_lt i n

-- the number of a name plus 1, or 0
abbrev pub is_name_or_none : (n : ℕ) → ℕ → Bool
is_name_or_none n i = nat_le i n

abbrev pub is_length : List ℕ → Bool
is_length name = nat_lt 0 (length name) && nat_le (length name) LONGEST_NAME

-- how long a list may be, since its length is a number of 32 bits
abbrev pub is_count : {A : Type 0} → List A → Bool
is_count xs = nat_lt (length xs) (2 ^ 32)

-- what an instruction names
abbrev pub named_by : Instr → List ℕ
named_by (GlobalAddr s) = s ∷ []
named_by (FuncAddr s) = s ∷ []
named_by (ClassAddr s) = s ∷ []
named_by (Call s n) = s ∷ []
named_by (TCall s n) = s ∷ []
named_by (CallIndirect ty n) = ty ∷ []
named_by (TCallIndirect ty n) = ty ∷ []
named_by (Slot c n) = c ∷ []
named_by (NewException ty) = ty ∷ []
named_by i = []

-- a row names a type where it handles one
abbrev pub named_by_row : Row → List ℕ
named_by_row r = if nat_eq r.what 1 then r.ty ∷ [] else []

abbrev pub named_by_body : BodyView → List ℕ
named_by_body b = flat_map named_by b.code ++ flat_map named_by_row b.rows

abbrev pub named_or_none : ℕ → List ℕ
named_or_none zero = []
named_or_none (suc i) = i ∷ []

abbrev pub named_by_member : ObjMember → List ℕ
named_by_member m = m.name ∷ m.ty ∷ []

abbrev pub named_by_class : ClassView → List ℕ
named_by_class c = (c.name ∷ c.text ∷ []) ++ named_or_none c.base ++ flat_map named_by_member c.members ++ flat_map named_or_none c.slots

abbrev pub named_by_cell : ObjCell → List ℕ
named_by_cell c = named_or_none c.symbol

abbrev pub named_by_global : GlobalView → List ℕ
named_by_global g = (g.symbol ∷ g.ty ∷ []) ++ flat_map named_by_cell g.cells

abbrev pub named_by_some : Option BodyView → List ℕ
named_by_some o = option_map_or named_by_body o []

abbrev pub named_by_func : FuncView → List ℕ
named_by_func f = (f.symbol ∷ f.ty ∷ []) ++ named_or_none f.text ++ named_by_some f.plain ++ named_by_some f.safe

-- all that an object names by its number
abbrev pub named_in : ObjectView → List ℕ
named_in o = flat_map named_by_class o.classes ++ flat_map named_by_global o.globals ++ flat_map named_by_func o.funcs

abbrev pub is_source : Option (List ℕ) → List ℕ → Bool
is_source source name = option_map_or (bytes_eq name) source false

-- each name, from number i on, is used
abbrev pub all_used : Option (List ℕ) → (used : List ℕ) → (i : ℕ) → List (List ℕ) → Bool
all_used source used i [] = true
all_used source used i (name ∷ names) = (list_any (nat_eq i) used || is_source source name) && all_used source used (i + 1) names

-- ---- bodies

abbrev pub is_line : (instrs : ℕ) → LineRow → Bool
is_line instrs l = nat_lt l.from instrs

-- strictly ascending, and lines of neighbours different
abbrev pub line_after : LineRow → LineRow → Bool
line_after a b = nat_lt a.from b.from && not (nat_eq a.line b.line)

abbrev pub lines_fit : (version instrs : ℕ) → List LineRow → Bool
lines_fit version instrs lines = is_count lines && list_all (is_line instrs) lines && ascends line_after lines && (nat_eq version 2 || nat_eq (length lines) 0)

abbrev pub body_fits : (version n : ℕ) → BodyView → Bool
body_fits version n b = is_count b.code && is_count b.rows && list_all (is_name n) (named_by_body b) && lines_fit version (length b.code) b.lines

-- ---- classes

abbrev pub member_fits : (n : ℕ) → ObjMember → Bool
member_fits n m = is_name n m.name && is_name n m.ty

abbrev pub class_fits : (n : ℕ) → ClassView → Bool
class_fits n c = is_name n c.name && is_name_or_none n c.base && is_name n c.text && is_count c.members && list_all (member_fits n) c.members
    && is_count c.slots && list_all (is_name_or_none n) c.slots

-- the class of that name, if there is one
abbrev pub class_named : List ClassView → ℕ → Option ClassView
class_named [] name = None
class_named (c ∷ cs) name = if nat_eq c.name name then Some c else class_named cs name

-- the base of a class: none, a class of the list, or a name that is no class of the list
abbrev pub chain_ends : List ClassView → (most : ℕ) → (base : ℕ) → Bool
chain_ends cs most zero = true
chain_ends cs zero (suc name) = false
chain_ends cs (suc most) (suc name) = option_map_or (λ c. chain_ends cs most c.base) (class_named cs name) false

-- each base is a class of the list, and no chain of bases is a circle: it ends in no more steps than there are classes
abbrev pub bases_fit : List ClassView → ClassView → Bool
bases_fit cs c = chain_ends cs (length cs) c.base

-- ---- globals

-- `what` 0 is a number, 1 the address of a global plus a number, 2 the address of a function
abbrev pub cell_kind_fits : ObjCell → Bool
cell_kind_fits c = nat_lt c.what 3 && (nat_eq c.what 0 || nat_eq c.size 8)

abbrev pub is_cell_size : ℕ → Bool
is_cell_size size = nat_eq size 1 || nat_eq size 2 || nat_eq size 4 || nat_eq size 8

abbrev pub is_multiple : ℕ → ℕ → Bool
is_multiple offset size = nat_eq (offset % size) 0

-- in a global of that size, of an object with n names
abbrev pub cell_fits : (n size : ℕ) → ObjCell → Bool
cell_fits n size c = is_cell_size c.size && is_multiple c.offset c.size && nat_le (c.offset + c.size) size && cell_kind_fits c
    && nat_lt c.value (2 ^ (8 * c.size)) && is_name_or_none n c.symbol && (if nat_eq c.what 0 then nat_eq c.symbol 0 else nat_lt 0 c.symbol)

-- strictly ascending, without an overlap
abbrev pub cell_after : ObjCell → ObjCell → Bool
cell_after a b = nat_lt a.offset b.offset && nat_le (a.offset + a.size) b.offset

abbrev pub global_fits : (n : ℕ) → GlobalView → Bool
global_fits n g = is_name n g.symbol && is_name n g.ty && nat_lt g.linkage 2 && nat_lt g.defined 2 && is_count g.cells && list_all (cell_fits n g.size) g.cells
    && ascends cell_after g.cells && (if nat_eq g.defined 0 then nat_eq g.size 0 && nat_eq (length g.cells) 0 else nat_lt 0 g.size)

-- ---- functions

abbrev pub bit : ℕ → ℕ → Bool
bit n flags = nat_eq (flags / 2 ^ n % 2) 1

abbrev pub is_defined : FuncView → Bool
is_defined f = bit 0 f.flags

abbrev pub has_safe : FuncView → Bool
has_safe f = bit 1 f.flags

abbrev pub is_wanted_safe : FuncView → Bool
is_wanted_safe f = bit 2 f.flags

abbrev pub is_no_except : FuncView → Bool
is_no_except f = bit 3 f.flags

abbrev pub is_inline : FuncView → Bool
is_inline f = nat_eq f.linkage 2

abbrev pub same : Bool → Bool → Bool
same true b = b
same false b = not b

-- bits 4 to 7 are 0, and bit 1 needs bit 0
abbrev pub flags_fit : ℕ → Bool
flags_fit flags = nat_lt flags 16 && (not (bit 1 flags) || bit 0 flags)

abbrev pub some_fits : (version n : ℕ) → Option BodyView → Bool
some_fits version n o = option_map_or (body_fits version n) o true

-- an inline definition has its text
abbrev pub text_fits : (n : ℕ) → FuncView → Bool
text_fits n f = is_name_or_none n f.text && same (is_inline f && is_defined f) (nat_lt 0 f.text)

abbrev pub func_fits : (version n : ℕ) → FuncView → Bool
func_fits version n f = is_name n f.symbol && is_name n f.ty && nat_lt f.linkage 3 && flags_fit f.flags && text_fits n f && (is_defined f || nat_eq f.frame 0)
    && same (is_defined f) (is_some f.plain) && some_fits version n f.plain && same (has_safe f) (is_some f.safe) && some_fits version n f.safe

-- ---- objects

abbrev pub source_fits : (version : ℕ) → List (List ℕ) → Option (List ℕ) → Bool
source_fits version names None = true
source_fits version names (Some name) = nat_eq version 2 && list_any (bytes_eq name) names

-- an object that some bytes spell
pub record IsObject (o : ObjectView) : Type 0 where
  pub version : (nat_eq o.version 1 || nat_eq o.version 2) ≡ true
  pub name_count : is_count o.names ≡ true
  pub names : list_all is_length o.names ≡ true
  pub names_ascend : ascends bytes_lt o.names ≡ true
  pub source : source_fits o.version o.names o.source ≡ true
  pub class_count : is_count o.classes ≡ true
  pub classes : list_all (class_fits (length o.names)) o.classes ≡ true
  pub classes_ascend : ascends_by (λ (c : ClassView). c.name) o.classes ≡ true
  pub global_count : is_count o.globals ≡ true
  pub globals : list_all (global_fits (length o.names)) o.globals ≡ true
  pub globals_ascend : ascends_by (λ (g : GlobalView). g.symbol) o.globals ≡ true
  pub func_count : is_count o.funcs ≡ true
  pub funcs : list_all (func_fits o.version (length o.names)) o.funcs ≡ true
  pub funcs_ascend : ascends_by (λ (f : FuncView). f.symbol) o.funcs ≡ true
  pub names_used : all_used o.source (named_in o) 0 o.names ≡ true
  pub bases : list_all (bases_fit o.classes) o.classes ≡ true
