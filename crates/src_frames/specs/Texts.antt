-- Types by their spellings.
use Rattle.std.specs.Prelude.{ℕ, Bool, false, List, Option, Some, None}
use Rattle.cpp_tree.specs.cpp_types.Typ.{Form, Signature, signature, typ, void, func, class, none as no_typs}
use Rattle.cpp_tree.specs.cpp_types.Class.{Class}
use Rattle.cpp_tree.specs.cpp_types.Equal.{name_eq}
use Rattle.cpp_tree.specs.cpp_types.Spelling.{form_spelling}

-- void()
abbrev pub no_signature : Signature
no_signature = signature no_typs (typ void false false) false

-- the function type that a form is
abbrev pub function_in : Form → Signature
function_in (func s) = s
function_in f = no_signature

-- a class has this spelling
abbrev pub is_spelled : List Class → List ℕ → ℕ → Bool
is_spelled classes text b = name_eq text (form_spelling classes (class b) false false)

-- the class that a form is
abbrev pub class_in : Form → Option ℕ
class_in (class n) = Some n
class_in f = None
