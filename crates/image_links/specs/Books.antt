-- What the numbers in an image's bodies stand for in the linked program, and the book of both.
use Rattle.std.specs.Prelude.{ℕ, zero, suc, ◌==◌, Bool, true, false, cond, not, nat_lt, ◌&&◌, ◌||◌, List, [], ◌∷◌, length, Option, Some, None, unwrap_or, slice_get}
use Rattle.std.specs.Option.{option_map_or}
use Rattle.tx_code.specs.Objects.{BodyView}
use Rattle.tx_code.specs.Images.{ImageFuncView, ImageView}
use Rattle.tx_code.specs.Signatures.{gives_of}
use Rattle.tx_code.specs.Program.{names_of, func_address, class_address, global_address}
use Rattle.cpp_tree.specs.cpp_types.Typ.{Typ, Form, void, class as class_form, Signature}
use Rattle.cpp_tree.specs.cpp_types.Class.{Class}
use Rattle.cpp_tree.specs.cpp_types.Equal.{name_eq, flag_eq}
use Rattle.cpp_tree.specs.Trees.{literal}
use Rattle.cpp_tree.specs.Units.{Definition, Unit as TypedUnit, TypedProgram}
use Rattle.src_mean.specs.Linked.{Func, Program}
use Rattle.src_mean.specs.Links.{globals_in, funcs_in}
use Rattle.src_mean.specs.Exceptions.{cancels, form_in}
use Rattle.symbolic_code.specs.Following.{Table}
use Rattle.body_check.specs.Notes.{Note}
use Rattle.body_check.specs.Cases.{spelled}
use Rattle.body_check.specs.Calls.{Book}

-- ---- places in lists

-- the first place, counted from a number on, that passes a test
abbrev pub first_place : {A : Type 0} → (ℕ → Bool) → ℕ → List A → Option ℕ
first_place test n [] = None
first_place test n (x ∷ xs) = cond (test n) (Some n) (first_place test (suc n) xs)

-- all places pass it
abbrev pub all_places : {A : Type 0} → (ℕ → Bool) → ℕ → List A → Bool
all_places test n [] = true
all_places test n (x ∷ xs) = test n && all_places test (suc n) xs

abbrev pub same_number : Option ℕ → Option ℕ → Bool
same_number None None = true
same_number None (Some n) = false
same_number (Some m) None = false
same_number (Some m) (Some n) = m == n

-- ---- types

-- the place of a spelling in a list, or the list's length where it is not there
abbrev pub spelling_place : List ℕ → List (List ℕ) → ℕ
spelling_place s [] = 0
spelling_place s (t ∷ ts) = cond (name_eq s t) 0 (suc (spelling_place s ts))

-- whether one of the first classes, so many, is spelled so
abbrev pub spells_class : List Class → (count : ℕ) → List ℕ → Bool
spells_class classes zero s = false
spells_class classes (suc n) s = name_eq s (spelled classes (class_form n)) || spells_class classes n s

-- whether a class is spelled so, and `void` is not
abbrev pub names_class : List Class → List ℕ → Bool
names_class classes s = not (name_eq s (spelled classes void)) && spells_class classes (length classes) s

abbrev pub is_class : List Class → Form → Bool
is_class classes (class_form n) = nat_lt n (length classes)
is_class classes f = false

-- a type that is no class is spelled as no class is
abbrev pub is_told_apart : List Class → Typ → Bool
is_told_apart classes ty = is_class classes (form_in ty) || not (names_class classes (spelled classes (form_in ty)))

-- the first class that passes a test, among those that a unit defines
abbrev pub first_class : (ℕ → Bool) → List Definition → Option ℕ
first_class test [] = None
first_class test (d ∷ ds) = cond (test d.class) (Some d.class) (first_class test ds)

abbrev pub first_typ : (Typ → Bool) → List Typ → Option Typ
first_typ test [] = None
first_typ test (t ∷ ts) = cond (test t) (Some t) (first_typ test ts)

abbrev pub classes_in : TypedProgram → ℕ → List Definition
classes_in t u = option_map_or (λ (x : TypedUnit). x.classes) (slice_get t.units u) []

-- where the program has no function
abbrev pub no_func : Func
no_func = record { unit = 0; size = 0; places = []; words = []; stops = false; safe = false; body = literal 0 }

abbrev pub no_body : BodyView
no_body = record { code = []; rows = []; lines = [] }

-- ---- functions

abbrev pub func_of : Program → ℕ → Func
func_of p n = unwrap_or (p.func n) no_func

-- how many words a function takes, and whether it hands back a word
abbrev pub func_takes : Program → ℕ → ℕ
func_takes p n = length (func_of p n).words

abbrev pub func_gives : ImageView → ℕ → Bool
func_gives i n = option_map_or (λ (f : ImageFuncView). gives_of f.ty == 1) (slice_get i.funcs n) false

-- what was found, if anything, is of the type with this number
abbrev pub is_of_type : ImageView → (s : ℕ) → Option ℕ → Bool
is_of_type i s None = true
is_of_type i s (Some n) = same_number ((names_of i).called s (func_address n)) (Some n)

module _ (i : ImageView) (p : Program) (t : TypedProgram) where
  -- the number of a type in the image, and one that no type has where it is not there
  abbrev pub type_number : Typ → ℕ
  type_number ty = spelling_place (spelled p.classes (form_in ty)) i.types

  -- the types of which image and program say alike whether they cancel
  abbrev pub cancels_alike : Typ → Bool
  cancels_alike ty = flag_eq ((names_of i).cancels (type_number ty)) (cancels ty)

  -- the types of exceptions that are thrown
  abbrev pub thrown_types : Typ → Bool
  thrown_types ty = cancels_alike ty && is_told_apart p.classes ty

  -- what was found, if anything, is a function of the image that takes so many words, and hands back a word or none
  abbrev pub passes_as : (count : ℕ) (gives : Bool) → Option ℕ → Bool
  passes_as count gives None = true
  passes_as count gives (Some n) = nat_lt n (length i.funcs) && ((func_takes p n == count) && flag_eq (func_gives i n) gives)

  -- all functions that addresses of functions find by a type do
  abbrev pub pointed_pass : Signature → (count : ℕ) → (gives : Bool) → Bool
  pointed_pass sig count gives = all_places (λ n. passes_as count gives (p.pointed (func_address n) sig)) 0 i.funcs

  -- all functions that classes have in a slot do
  abbrev pub slotted_pass : (class slot count : ℕ) → (gives : Bool) → Bool
  slotted_pass class slot count gives = all_places (λ d. passes_as count gives (p.slot (class_address d) class slot)) 0 i.classes

  -- ---- names in the bodies of a unit's functions

  -- the unit's global that lies where this one does
  abbrev pub global_of : (unit : ℕ) → ℕ → Option ℕ
  global_of u s = first_place (λ n. p.global u n == global_address s) 0 (globals_in t u)

  -- the unit's function with this number
  abbrev pub function_of : (unit : ℕ) → ℕ → Option ℕ
  function_of u s = cond (nat_lt s (length i.funcs)) (first_place (λ n. p.number u n == s) 0 (funcs_in t u)) None

  -- the class with this number, as the unit defines it
  abbrev pub class_of : (unit : ℕ) → ℕ → Option ℕ
  class_of u s = first_class (λ c. p.table c == class_address s) (classes_in t u)

  -- the type with this number among some that are given
  abbrev pub type_of : List Typ → ℕ → Option Typ
  type_of typs s = first_typ (λ ty. type_number ty == s) typs

  -- the functions of the type with this number are those of the type
  abbrev pub is_signature : ℕ → Signature → Bool
  is_signature s sig = all_places (λ n. same_number ((names_of i).called s (func_address n)) (p.pointed (func_address n) sig)) 0 i.funcs

  -- the functions that classes have in a slot are of the type with this number
  abbrev pub is_slot : (s class slot : ℕ) → Bool
  is_slot s class slot = all_places (λ d. is_of_type i s (p.slot (class_address d) class slot)) 0 i.classes

  abbrev pub table_of : (unit : ℕ) → List Typ → Table
  table_of u typs = record {
    global_of = λ s. global_of u s;
    function_of = λ s. function_of u s;
    class_of = λ s. class_of u s;
    type_of = λ s. type_of typs s;
    is_signature = λ s sig. is_signature s sig;
    is_slot = λ s class slot. is_slot s class slot;
  }

  -- ---- the book, where bodies have these notes, and these types are those of the exceptions that they make

  abbrev pub body_of : ℕ → Bool → BodyView
  body_of n safe = unwrap_or ((names_of i).body n safe) no_body

  abbrev pub book_of : (notes : ℕ → Bool → List Note) → (typs : ℕ → Bool → List Typ) → Book
  book_of notes typs = record {
    held = λ n safe. record {
      number = n;
      safe = safe;
      func = func_of p n;
      body = body_of n safe;
      rows = (body_of n safe).rows;
      notes = notes n safe;
      table =
          table_of (func_of p n).unit (typs n safe);
    };
    gives = λ n. func_gives i n;
    takes = λ n. func_takes p n;
    stops = λ n. (func_of p n).stops;
    numbers = type_number;
    thrown = thrown_types;
    takes_as = pointed_pass;
    slot_takes = slotted_pass;
  }
