-- The spellings of types in objects.
use Rattle.std.specs.Prelude.{Bool, true, false, ◌||◌, ℕ, List, ◌++◌, Option, Some, None, cond, codes}
use Rattle.cpp_tree.specs.tx_ints.declared.kinds.IntKind.{IntKind}
use Rattle.cpp_tree.specs.tx_ints.declared.kinds.IntKind.TheVariants.{Int, ULong}
use Rattle.cpp_tree.specs.cpp_types.Typ.{Typ, typ, Form, void, int, enum, ptr, func, class, closure, tx_ex, Signature, signature, none}
use Rattle.cpp_tree.specs.cpp_types.Class.{Class}
use Rattle.cpp_tree.specs.cpp_types.Spelling.{spelling, listed}
use Rattle.cpp_tree.specs.declared.program.FuncKind.{FuncKind}
use Rattle.cpp_tree.specs.declared.program.FuncKind.TheVariants.{Plain, Constructor, Destructor, ClosureCall}

-- the kind by which a scalar of a type is stored; that of addresses for what is none
abbrev pub stored_form : Form → IntKind
stored_form (int kind) = kind
stored_form (enum name scoped) = Int
stored_form form = ULong

abbrev pub stored_kind : Typ → IntKind
stored_kind (typ form c v) = stored_form form

abbrev pub is_void_form : Form → Bool
is_void_form void = true
is_void_form form = false

abbrev pub is_void : Typ → Bool
is_void (typ form c v) = is_void_form form

-- objects of the type are made of parts
abbrev pub is_class_form : Form → Bool
is_class_form (class number) = true
is_class_form (closure number) = true
is_class_form (tx_ex value) = true
is_class_form form = false

abbrev pub is_class_type : Typ → Bool
is_class_type (typ form c v) = is_class_form form

-- how many words a result of a type is
abbrev pub word_count : Typ → ℕ
word_count ret = cond (is_void ret || is_class_type ret) 0 1

abbrev pub result_of : Signature → Typ
result_of (signature ps r safe) = r

-- how many words a function hands back: none where the result is `void` or a class
abbrev pub gives : FuncKind → Signature → ℕ
gives Plain s = word_count (result_of s)
gives ClosureCall s = word_count (result_of s)
gives Constructor s = 0
gives Destructor s = 0

-- a type without its own `const` and `volatile`
abbrev pub bare_typ : Typ → Typ
bare_typ (typ form c v) = typ form false false

abbrev pub bare_text : List Class → Typ → List ℕ
bare_text classes t = spelling classes (bare_typ t)

-- a function's type without its safety
abbrev pub function_text : List Class → Signature → List ℕ
function_text classes (signature ps r safe) = spelling classes (typ (func (signature ps r false)) false false)

-- constructors and destructors count as functions without a result
abbrev pub result_text : List Class → FuncKind → Typ → List ℕ
result_text classes Plain r = spelling classes r
result_text classes ClosureCall r = spelling classes r
result_text classes Constructor r = codes "void"
result_text classes Destructor r = codes "void"

abbrev pub this_text : List Class → FuncKind → Signature → List ℕ
this_text classes kind (signature ps r safe) = result_text classes kind r ++ (codes "(this" ++ (listed classes true ps ++ codes ")"))

-- that of a member function has `this` as its first parameter
abbrev pub member_text : List Class → Option ℕ → FuncKind → Signature → List ℕ
member_text classes None kind s = function_text classes s
member_text classes (Some owner) kind s = this_text classes kind s

abbrev pub no_signature : Signature
no_signature = signature none (typ void false false) false

abbrev pub called_form : Form → Signature
called_form (func s) = s
called_form form = no_signature

abbrev pub called_typ : Typ → Signature
called_typ (typ form c v) = called_form form

abbrev pub pointed_form : Form → Signature
pointed_form (ptr target) = called_typ target
pointed_form form = no_signature

-- the function type that a pointer of a type points to
abbrev pub called_type : Typ → Signature
called_type (typ form c v) = pointed_form form
