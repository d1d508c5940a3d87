-- How types are spelled.
use Rattle.std.specs.Prelude.{Bool, true, false, ◌||◌, ℕ, List, [], ◌++◌, Option, Some, None, cond, codes, decimal, slice_get}
use Rattle.tx_ints.specs.declared.kinds.IntKind.{IntKind}
use Rattle.tx_ints.specs.declared.kinds.IntKind.TheVariants.{Bool as BoolKind, Char, SChar, UChar, Short, UShort, Int, UInt, Long, ULong, LLong, ULLong}
use Rattle.cpp_types.specs.declared.classes.At.{At}
use Rattle.cpp_types.specs.Typ.{Typ, typ, Form, void, int, enum, null, ptr, ref, array, func, class, closure, tx_ex, Signature, signature, Typs, none, more}
use Rattle.cpp_types.specs.Class.{Class, Function}

abbrev pub kind_spelling : IntKind → List ℕ
kind_spelling BoolKind = codes "bool"
kind_spelling Char = codes "char"
kind_spelling SChar = codes "signed char"
kind_spelling UChar = codes "unsigned char"
kind_spelling Short = codes "short"
kind_spelling UShort = codes "unsigned short"
kind_spelling Int = codes "int"
kind_spelling UInt = codes "unsigned int"
kind_spelling Long = codes "long"
kind_spelling ULong = codes "unsigned long"
kind_spelling LLong = codes "long long"
kind_spelling ULLong = codes "unsigned long long"

-- a text where the flag is set
abbrev pub where_set : Bool → List ℕ → List ℕ
where_set b text = cond b text []

-- `const` and `volatile` before a type, and behind `*` or `&`
abbrev pub before : Bool → Bool → List ℕ
before c v = where_set c (codes "const ") ++ where_set v (codes "volatile ")

abbrev pub behind : Bool → Bool → List ℕ
behind c v = where_set c (codes " const") ++ where_set v (codes " volatile")

-- the name of a class by its index in the list
abbrev pub name_of : Option Class → List ℕ
name_of (Some c) = c.name
name_of None = []

-- a lambda's class is named by the position of its call
abbrev pub position_spelling : At → List ℕ
position_spelling at = codes "lambda:" ++ decimal at.source ++ codes ":" ++ decimal at.offset

abbrev pub call_name : Option Function → List ℕ
call_name (Some f) = position_spelling f.at
call_name None = []

abbrev pub closure_name : Option Class → List ℕ
closure_name (Some c) = call_name (slice_get c.functions 0)
closure_name None = []

abbrev mutual
  pub spelling : List Class → Typ → List ℕ
  spelling classes (typ f c v) = form_spelling classes f c v

  -- a form with `const` and `volatile`; those of an array are of its elements
  pub form_spelling : List Class → Form → Bool → Bool → List ℕ
  form_spelling classes void c v = before c v ++ codes "void"
  form_spelling classes (int k) c v = before c v ++ kind_spelling k
  form_spelling classes (enum n s) c v = before c v ++ (codes "enum " ++ n)
  form_spelling classes null c v = before c v ++ codes "std::nullptr_t"
  form_spelling classes (ptr t) c v = pointer_spelling classes t c v
  form_spelling classes (ref t) c v = spelling classes t ++ (codes "&" ++ behind c v)
  form_spelling classes (array (typ f d w) n) c v = form_spelling classes f (c || d) (v || w) ++ (codes "[" ++ decimal n ++ codes "]")
  form_spelling classes (func s) c v = before c v ++ function_spelling classes s []
  form_spelling classes (class n) c v = before c v ++ name_of (slice_get classes n)
  form_spelling classes (closure n) c v = before c v ++ closure_name (slice_get classes n)
  form_spelling classes (tx_ex t) c v = before c v ++ (codes "std::tx_exception<" ++ spelling classes t ++ codes ">")

  -- a pointer with `const` and `volatile`; one to a function has the star inside
  pub pointer_spelling : List Class → Typ → Bool → Bool → List ℕ
  pointer_spelling classes (typ (func s) d w) c v = function_spelling classes s (codes "(*" ++ behind c v ++ codes ")")
  pointer_spelling classes (typ f d w) c v = form_spelling classes f d w ++ (codes "*" ++ behind c v)

  -- a function's type, with what stands before its parameters
  pub function_spelling : List Class → Signature → List ℕ → List ℕ
  function_spelling classes (signature ps r safe) star =
      spelling classes r ++ (star ++ (codes "(" ++ (listed classes false ps ++ (codes ")" ++ where_set safe (codes " transaction_safe")))))

  -- types with commas between them, and one before the first where the flag is set
  pub listed : List Class → Bool → Typs → List ℕ
  listed classes comma none = []
  listed classes comma (more t ts) = where_set comma (codes ",") ++ (spelling classes t ++ listed classes true ts)
