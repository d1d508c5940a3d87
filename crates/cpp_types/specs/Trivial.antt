-- Which types are copied byte by byte (C++14 3.9, clause 9).
use Rattle.std.specs.Prelude.{◌≡◌, Bool, true, false, not, ◌&&◌, ◌||◌, ◌==◌, ℕ, List, [], ◌∷◌, Option, Some, None, is_some, slice_get}
use Rattle.std.specs.List.{list_any}
use Rattle.cpp_types.specs.Typ.{Typ, typ, Form, void, ref, array, func, class, closure, tx_ex, Signature, signature, Typs, none, more}
use Rattle.cpp_types.specs.Class.{Class, Member, Function, base_of, held}
use Rattle.cpp_types.specs.Equal.{name_eq}
use Rattle.cpp_types.specs.Conversion.{volatile_of, form_of}

-- a reference to the class, whatever its qualifiers
abbrev pub refers_to : ℕ → Typ → Bool
refers_to n (typ (ref (typ (class k) c v)) d w) = k == n
refers_to n t = false

-- the one type of a list is a reference to the class
abbrev pub only_refers : ℕ → Typs → Bool
only_refers n (more t none) = refers_to n t
only_refers n ts = false

-- the one parameter is a reference to the class itself
abbrev pub takes_itself : ℕ → Signature → Bool
takes_itself n (signature ps r safe) = only_refers n ps

-- a constructor has the name of its class
abbrev pub is_copy_constructor : ℕ → List ℕ → Function → Bool
is_copy_constructor n name f = name_eq f.name name && takes_itself n f.signature

-- a name that begins with `~`
abbrev pub is_destructor_name : List ℕ → Bool
is_destructor_name [] = false
is_destructor_name (c ∷ rest) = c == 126

-- a function that keeps its class from being copied byte by byte
abbrev pub hinders : ℕ → List ℕ → Function → Bool
hinders n name f = f.is_virtual || (is_copy_constructor n name f || is_destructor_name f.name)

-- the class is complete, has no such function of its own, and no volatile member
abbrev pub is_plain : ℕ → Option Class → Bool
is_plain n (Some c) = is_some c.complete && (not (list_any (hinders n c.name) c.functions) && not (list_any (λ (m : Member). volatile_of m.typ) c.members))
is_plain n None = false

abbrev pub member_at : Option Class → ℕ → Option Member
member_at (Some c) i = slice_get c.members i
member_at None i = None

-- the classes whose parts make up an object of the first one: itself, its bases and what its members hold, each with theirs
pub data Part (classes : List Class) : ℕ → ℕ → Type 0 where
  itself : {n : ℕ} → Part classes n n
  of_base : {n b k : ℕ} → base_of classes n ≡ Some b → Part classes b k → Part classes n k
  of_member : {n e k : ℕ} (i : ℕ) (m : Member) → member_at (slice_get classes n) i ≡ Some m → held m.typ ≡ Some e → Part classes e k → Part classes n k

-- a class is trivially copyable where all its parts are plain
pub record IsTrivialClass (classes : List Class) (n : ℕ) : Type 0 where
  pub parts : (k : ℕ) → Part classes n k → is_plain k (slice_get classes k) ≡ true

abbrev pub IsTrivialForm : List Class → Form → Type 0
IsTrivialForm classes void = ⊥
IsTrivialForm classes (func s) = ⊥
IsTrivialForm classes (ref t) = ⊥
IsTrivialForm classes (class n) = IsTrivialClass classes n
IsTrivialForm classes (closure n) = IsTrivialClass classes n
IsTrivialForm classes (array (typ f c v) n) = IsTrivialForm classes f
IsTrivialForm classes (tx_ex (typ f c v)) = IsTrivialForm classes f
IsTrivialForm classes f = Unit {0}

-- scalars, trivially copyable classes, and arrays and exceptions of these, where they are not volatile
abbrev pub IsTriviallyCopyable : List Class → Typ → Type 0
IsTriviallyCopyable classes t = (volatile_of t ≡ false) × IsTrivialForm classes (form_of t)
