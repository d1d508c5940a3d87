-- Why objects can't be linked, as conditions on the objects and a symbol, in the words of C++14 3.2 and 3.5 where one applies.
use Rattle.std.specs.Prelude.{Bool, true, false, ℕ, zero, suc, List, [], ◌∷◌, map, Option, Some, None, not, ◌&&◌, ◌||◌, nat_eq, codes, if◌then◌else◌}
use Rattle.std.specs.List.{list_any, flat_map}
use Rattle.std.specs.Option.{option_map_or}
use Rattle.std.specs.Str.{bytes_eq}
use Rattle.std.specs.Cmp.Lexicographic.{pointwise}
use Rattle.tx_code.specs.declared.object.ObjMember.{ObjMember}
use Rattle.tx_code.specs.declared.object.ObjCell.{ObjCell}
use Rattle.tx_code.specs.Objects.{ClassView, GlobalView, FuncView, ObjectView}
use Rattle.tx_code.specs.WellFormed.{is_defined, has_safe, is_wanted_safe}
use Rattle.tx_code.specs.Images.{main_type}
use Rattle.tx_code.specs.Linked.{name_in, is_defined_global, end_of, global_defs}

-- ---- entries

-- what an object says of a symbol
pub record Entry : Type 0 where
  pub symbol : List ℕ
  pub ty : List ℕ
  pub linkage : ℕ
  pub defined : Bool
  -- of an inline definition
  pub text : Option (List ℕ)
  pub wanted_safe : Bool
  pub safe : Bool

abbrev pub text_in : ObjectView → ℕ → Option (List ℕ)
text_in o zero = None
text_in o (suc text) = Some (name_in o text)

abbrev pub func_entry : ObjectView → FuncView → Entry
func_entry o f = record {
  symbol = name_in o f.symbol;
  ty = name_in o f.ty;
  linkage = f.linkage;
  defined = is_defined f;
  text = text_in o f.text;
  wanted_safe =
      is_wanted_safe f;
  safe = has_safe f;
}

abbrev pub global_entry : ObjectView → GlobalView → Entry
global_entry o g = record {
  symbol = name_in o g.symbol;
  ty = name_in o g.ty;
  linkage = g.linkage;
  defined = is_defined_global g;
  text = None;
  wanted_safe =
      false;
  safe = false;
}

abbrev pub funcs_of : ObjectView → List Entry
funcs_of o = map (func_entry o) o.funcs

abbrev pub globals_of : ObjectView → List Entry
globals_of o = map (global_entry o) o.globals

-- the entries of all objects, in their order; functions and globals are apart
abbrev pub func_entries : List ObjectView → List Entry
func_entries os = flat_map funcs_of os

abbrev pub global_entries : List ObjectView → List Entry
global_entries os = flat_map globals_of os

-- a test holds of two that stand at different places of a list; an object has one entry of a symbol
abbrev pub any_two : {A : Type 0} → (A → A → Bool) → List A → Bool
any_two test [] = false
any_two test (x ∷ xs) = list_any (test x) xs || any_two test xs

abbrev pub is_internal : Entry → Bool
is_internal e = nat_eq e.linkage 1

abbrev pub is_external : Entry → Bool
is_external e = nat_eq e.linkage 0

-- an entry that other objects see (C++14 3.5)
abbrev pub shows : List ℕ → Entry → Bool
shows symbol e = not (is_internal e) && bytes_eq e.symbol symbol

abbrev pub defines : List ℕ → Entry → Bool
defines symbol e = e.defined && shows symbol e

-- ---- twice (C++14 3.2)

abbrev pub clash : List ℕ → Entry → Entry → Bool
clash symbol a b = defines symbol a && defines symbol b && (is_external a || is_external b)

abbrev pub is_twice : List ObjectView → List ℕ → Bool
is_twice os symbol = any_two (clash symbol) (func_entries os) || any_two (clash symbol) (global_entries os)

-- ---- different definitions (C++14 3.2)

abbrev pub types_differ : List ℕ → Entry → Entry → Bool
types_differ symbol a b = shows symbol a && shows symbol b && not (bytes_eq a.ty b.ty)

abbrev pub is_other_text : Option (List ℕ) → Option (List ℕ) → Bool
is_other_text (Some a) (Some b) = not (bytes_eq a b)
is_other_text a b = false

abbrev pub texts_differ : List ℕ → Entry → Entry → Bool
texts_differ symbol a b = defines symbol a && defines symbol b && is_other_text a.text b.text

-- a class as its object has it
pub record MemberRecord : Type 0 where
  pub name : List ℕ
  pub offset : ℕ
  pub ty : List ℕ

pub record ClassRecord : Type 0 where
  pub name : List ℕ
  pub size : ℕ
  pub align : ℕ
  pub base : Option (List ℕ)
  pub pointer : ℕ
  pub text : List ℕ
  pub members : List MemberRecord
  pub slots : List (Option (List ℕ))

abbrev pub member_record : ObjectView → ObjMember → MemberRecord
member_record o m = record { name = name_in o m.name; offset = m.offset; ty = name_in o m.ty }

abbrev pub class_record : ObjectView → ClassView → ClassRecord
class_record o c = record {
  name = name_in o c.name;
  size = c.size;
  align = c.align;
  base = text_in o c.base;
  pointer = c.pointer;
  text = name_in o c.text;
  members = map (member_record o) c.members;
  slots = map (text_in o) c.slots;
}

abbrev pub classes_of : ObjectView → List ClassRecord
classes_of o = map (class_record o) o.classes

abbrev pub class_records : List ObjectView → List ClassRecord
class_records os = flat_map classes_of os

abbrev pub same_member : MemberRecord → MemberRecord → Bool
same_member a b = bytes_eq a.name b.name && nat_eq a.offset b.offset && bytes_eq a.ty b.ty

abbrev pub same_or_none : Option (List ℕ) → Option (List ℕ) → Bool
same_or_none None None = true
same_or_none (Some a) (Some b) = bytes_eq a b
same_or_none a b = false

abbrev pub same_class : ClassRecord → ClassRecord → Bool
same_class a b = nat_eq a.size b.size && nat_eq a.align b.align && same_or_none a.base b.base && nat_eq a.pointer b.pointer && bytes_eq a.text b.text
    && pointwise same_member a.members b.members && pointwise same_or_none a.slots b.slots

abbrev pub classes_differ : List ℕ → ClassRecord → ClassRecord → Bool
classes_differ name a b = bytes_eq a.name name && bytes_eq b.name name && not (same_class a b)

-- class records of one name, definition texts of one inline function, or types of one symbol that is internal in neither object
abbrev pub is_different : List ObjectView → List ℕ → Bool
is_different os symbol = any_two (classes_differ symbol) (class_records os) || any_two (texts_differ symbol) (func_entries os)
    || any_two (types_differ symbol) (func_entries os) || any_two (types_differ symbol) (global_entries os)

-- ---- undefined (C++14 3.2)

-- an undefined entry that is internal, or of which no object has the definition
abbrev pub is_missing : List Entry → List ℕ → Entry → Bool
is_missing entries symbol e = bytes_eq e.symbol symbol && not e.defined && (is_internal e || not (list_any (defines symbol) entries))

abbrev pub has_func : ObjectView → ℕ → Bool
has_func o name = list_any (λ (f : FuncView). nat_eq f.symbol name) o.funcs

abbrev pub has_global : ObjectView → ℕ → Bool
has_global o name = list_any (λ (g : GlobalView). nat_eq g.symbol name) o.globals

-- a slot or a cell names a symbol that has no entry of its sort in its object
abbrev pub is_unlisted_func : ObjectView → List ℕ → ℕ → Bool
is_unlisted_func o symbol zero = false
is_unlisted_func o symbol (suc name) = bytes_eq (name_in o name) symbol && not (has_func o name)

abbrev pub is_unlisted_global : ObjectView → List ℕ → ℕ → Bool
is_unlisted_global o symbol zero = false
is_unlisted_global o symbol (suc name) = bytes_eq (name_in o name) symbol && not (has_global o name)

abbrev pub is_unlisted_cell : ObjectView → List ℕ → ObjCell → Bool
is_unlisted_cell o symbol c = if nat_eq c.what 2 then is_unlisted_func o symbol c.symbol else is_unlisted_global o symbol c.symbol

abbrev pub has_unlisted_slot : ObjectView → List ℕ → ClassView → Bool
has_unlisted_slot o symbol c = list_any (is_unlisted_func o symbol) c.slots

abbrev pub has_unlisted_cell : ObjectView → List ℕ → GlobalView → Bool
has_unlisted_cell o symbol g = list_any (is_unlisted_cell o symbol) g.cells

abbrev pub has_unlisted : List ℕ → ObjectView → Bool
has_unlisted symbol o = list_any (has_unlisted_slot o symbol) o.classes || list_any (has_unlisted_cell o symbol) o.globals

abbrev pub is_undefined : List ObjectView → List ℕ → Bool
is_undefined os symbol = list_any (is_missing (func_entries os) symbol) (func_entries os)
    || list_any (is_missing (global_entries os) symbol) (global_entries os) || list_any (has_unlisted symbol) os

-- ---- unsafe (the TS, [dcl.attr.tx] and [expr.call])

-- the definition that an entry stands for: its own where it is internal, else the first in the order of the objects
abbrev pub first_of : {A : Type 0} → (A → Bool) → List A → Option A
first_of test [] = None
first_of test (x ∷ xs) = if test x then Some x else first_of test xs

abbrev pub kept_is_safe : List Entry → Entry → Bool
kept_is_safe entries e = if is_internal e then e.safe else option_map_or (λ (d : Entry). d.safe) (first_of (defines e.symbol) entries) false

abbrev pub wants : List Entry → List ℕ → Entry → Bool
wants entries symbol e = bytes_eq e.symbol symbol && e.wanted_safe && not (kept_is_safe entries e)

abbrev pub is_unsafe : List ObjectView → List ℕ → Bool
is_unsafe os symbol = list_any (wants (func_entries os) symbol) (func_entries os)

-- ---- no main (C++14 3.6.1)

-- the names of `int main()`
abbrev pub names_main : (symbol ty : List ℕ) → Bool
names_main symbol ty = bytes_eq symbol (codes "main()") && bytes_eq ty main_type

abbrev pub is_main : Entry → Bool
is_main e = e.defined && is_external e && names_main e.symbol e.ty

abbrev pub has_main : List ObjectView → Bool
has_main os = list_any is_main (func_entries os)

-- ---- too many globals

abbrev pub size_of_globals : List ObjectView → ℕ
size_of_globals os = end_of 0 (global_defs 0 os)
