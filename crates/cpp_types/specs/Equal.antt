-- Equality of types as a test.
use Rattle.std.specs.Prelude.{Bool, true, false, ◌&&◌, ◌==◌, ℕ, List, [], ◌∷◌}
use Rattle.tx_ints.specs.declared.kinds.IntKind.{IntKind}
use Rattle.tx_ints.specs.declared.kinds.IntKind.TheVariants.{Bool as BoolKind, Char, SChar, UChar, Short, UShort, Int, UInt, Long, ULong, LLong, ULLong}
use Rattle.cpp_types.specs.Typ.{Typ, typ, Form, void, int, enum, null, ptr, ref, array, func, class, closure, tx_ex, Signature, signature, Typs, none, more}

abbrev pub flag_eq : Bool → Bool → Bool
flag_eq true b = b
flag_eq false true = false
flag_eq false false = true

abbrev pub name_eq : List ℕ → List ℕ → Bool
name_eq [] [] = true
name_eq (a ∷ s) (b ∷ t) = a == b && name_eq s t
name_eq _ _ = false

abbrev pub kind_eq : IntKind → IntKind → Bool
kind_eq BoolKind BoolKind = true
kind_eq Char Char = true
kind_eq SChar SChar = true
kind_eq UChar UChar = true
kind_eq Short Short = true
kind_eq UShort UShort = true
kind_eq Int Int = true
kind_eq UInt UInt = true
kind_eq Long Long = true
kind_eq ULong ULong = true
kind_eq LLong LLong = true
kind_eq ULLong ULLong = true
kind_eq _ _ = false

abbrev mutual
  pub typ_eq : Typ → Typ → Bool
  typ_eq (typ f c v) (typ g d w) = flag_eq c d && flag_eq v w && form_eq f g

  pub form_eq : Form → Form → Bool
  form_eq void void = true
  form_eq (int j) (int k) = kind_eq j k
  form_eq (enum m s) (enum n t) = name_eq m n && flag_eq s t
  form_eq null null = true
  form_eq (ptr s) (ptr t) = typ_eq s t
  form_eq (ref s) (ref t) = typ_eq s t
  form_eq (array s m) (array t n) = m == n && typ_eq s t
  form_eq (func s) (func t) = signature_eq s t
  form_eq (class m) (class n) = m == n
  form_eq (closure m) (closure n) = m == n
  form_eq (tx_ex s) (tx_ex t) = typ_eq s t
  form_eq _ _ = false

  pub signature_eq : Signature → Signature → Bool
  signature_eq (signature ps r s) (signature qs q t) = flag_eq s t && typ_eq r q && typs_eq ps qs

  pub typs_eq : Typs → Typs → Bool
  typs_eq none none = true
  typs_eq (more s ss) (more t ts) = typ_eq s t && typs_eq ss ts
  typs_eq _ _ = false
