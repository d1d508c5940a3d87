-- Short forms for the units of worked programs.
use Rattle.std.specs.Prelude.{ℕ, suc, Bool, true, false, List, [], ◌∷◌, ◌++◌, map, Option, Some, None, codes}
use Rattle.std.specs.List.{list_all}
use Rattle.cpp_tree.specs.cpp_types.Typ.{Typ, void, Signature, signature, none as none_typs}
use Rattle.cpp_tree.specs.cpp_types.Class.{Class, Member, Function}
use Rattle.cpp_tree.specs.cpp_types.declared.classes.Safety.TheVariants.{None as Unsaid}
use Rattle.cpp_tree.specs.declared.program.FuncKind.{FuncKind}
use Rattle.cpp_tree.specs.declared.program.Linkage.TheVariants.{External}
use Rattle.cpp_tree.specs.Trees.{Tree, nowhere}
use Rattle.cpp_tree.specs.Notation.{plain}
use Rattle.cpp_tree.specs.Units.{Param, Func, Cell, Global, Definition, SlotFunc, Unit as TypedUnit, TypedProgram}
use Rattle.cpp_tree.specs.Rows.{Setting}
use Rattle.cpp_tree.specs.WellFormed.{body_fits}
use Rattle.src_mean.specs.Linked.{Program}
use Rattle.src_mean.specs.Links.{linked, class_name}

abbrev pub declared : List ℕ → Signature → (virtual no_except : Bool) → Function
declared name s virtual no_except = record {
  name = name;
  signature = s;
  is_const = false;
  is_virtual = virtual;
  is_override = false;
  is_final = false;
  pure_virtual = false;
  safety = Unsaid;
  considered = false;
  no_except = no_except;
  at = nowhere;
}

abbrev pub param : Typ → Param
param t = record { typ = t; at = nowhere }

-- a function: its symbol and name, its kind and class, its type, whether it is virtual and noexcept, the words of a call, its parameters, its frame
-- and its body
abbrev pub defined : (symbol name : List ℕ) → FuncKind → Option ℕ → Signature → (virtual no_except : Bool) → (words : ℕ) → (params frame : List Typ) → Tree
    → Func
defined symbol name kind class s virtual no_except words params frame body =
    record {
      symbol = symbol;
      declared = declared name s virtual no_except;
      linkage = External;
      text = [];
      kind = kind;
      class = class;
      implicit = false;
      words =
          words;
      params = map param params;
      frame = frame;
      body = Some body;
      closed_at = 0;
    }

abbrev pub member : Typ → Member
member t = record { name = []; typ = t }

abbrev pub virtual_functions : Bool → List Function
virtual_functions true = declared [] (signature none_typs (plain void) false) true false ∷ []
virtual_functions false = []

-- a class: its name, base and members, whether the class pointer is its own, and how many classes were completed before it
abbrev pub class_of : List ℕ → Option ℕ → List Typ → (virtual : Bool) → ℕ → Class
class_of name base members virtual number = record {
  name = name;
  base = base;
  members = map member members;
  functions = virtual_functions virtual;
  is_final =
      false;
  complete = Some number;
}

abbrev pub slot_of : List ℕ → Signature → ℕ → SlotFunc
slot_of name s class = record { name = name; signature = s; class = class; func = 0; safe = false; dynamic = false }

abbrev pub global_of : List ℕ → Typ → List Cell → Global
global_of symbol t cells = record { symbol = symbol; typ = t; linkage = External; init = cells; defined = true }

abbrev pub defined_classes : ℕ → List Class → List Definition
defined_classes n [] = []
defined_classes n (c ∷ cs) = record { class = n; text = [] } ∷ defined_classes (suc n) cs

abbrev pub one_unit : List Func → List Global → List Class → List (List SlotFunc) → TypedProgram
one_unit funcs globals classes slots = record {
  units = record { funcs = funcs; globals = globals; classes = defined_classes 0 classes }
      ∷ [];
  classes = classes;
  slots = slots;
}

-- the symbol of a slot's function, where it has no parameters
abbrev pub slot_symbol : List Class → SlotFunc → Option (List ℕ)
slot_symbol classes f = Some (class_name classes f.class ++ codes "::" ++ f.name ++ codes "()")

-- the linked program of one unit, all of whose functions have safe bodies
abbrev pub link : TypedProgram → Program
link t = linked (λ u n. true) (slot_symbol t.classes) (codes "main()") t

-- each body is well-formed
abbrev pub fits_where_there : Setting → Option Tree → Bool
fits_where_there s None = true
fits_where_there s (Some body) = body_fits s body

abbrev pub bodies_fit : TypedProgram → Bool
bodies_fit t = list_all (λ (u : TypedUnit). list_all (λ (f : Func). fits_where_there
    (record { classes = t.classes; slots = t.slots; funcs = u.funcs; globals = u.globals; function = f }) f.body) u.funcs) t.units
