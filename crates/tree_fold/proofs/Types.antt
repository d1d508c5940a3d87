-- The test of equality of types finds them equal only where they are.
use Rattle.std.proofs.Common.{◌≡◌, Bool, true, false, ◌&&◌, ◌==◌, ℕ, List, [], ◌∷◌, refl, sym, ap, eqb-true}
use Rattle.std.proofs.lemmas.Bool.{and_parts}
use Rattle.cpp_tree.specs.tx_ints.declared.kinds.IntKind.{IntKind}
use Rattle.cpp_tree.specs.tx_ints.declared.kinds.IntKind.TheVariants.{Bool as BoolKind, Char, SChar, UChar, Short, UShort, Int, UInt, Long, ULong, LLong}
use Rattle.cpp_tree.specs.tx_ints.declared.kinds.IntKind.TheVariants.{ULLong}
use Rattle.cpp_tree.specs.cpp_types.Typ.{Typ, typ, Form, void, int, enum, null, ptr, ref, array, func, class, closure, tx_ex, Signature, signature, Typs, none}
use Rattle.cpp_tree.specs.cpp_types.Typ.{more}
use Rattle.cpp_tree.specs.cpp_types.Equal.{flag_eq, name_eq, kind_eq, typ_eq, form_eq, signature_eq, typs_eq}

flag_same : (a b : Bool) → flag_eq a b ≡ true → a ≡ b
flag_same true b h = sym h
flag_same false true h = absurd cc
flag_same false false h = refl

name_same : (s t : List ℕ) → name_eq s t ≡ true → s ≡ t
name_same [] [] h = refl
name_same [] (b ∷ t) h = absurd cc
name_same (a ∷ s) [] h = absurd cc
name_same (a ∷ s) (b ∷ t) h = let p = and_parts (a == b) (name_eq s t) h in let e = eqb-true a b p.0 in let f = name_same s t p.1 in cc

pub kind_same : (j k : IntKind) → kind_eq j k ≡ true → j ≡ k
kind_same BoolKind BoolKind h = refl
kind_same Char Char h = refl
kind_same SChar SChar h = refl
kind_same UChar UChar h = refl
kind_same Short Short h = refl
kind_same UShort UShort h = refl
kind_same Int Int h = refl
kind_same UInt UInt h = refl
kind_same Long Long h = refl
kind_same ULong ULong h = refl
kind_same LLong LLong h = refl
kind_same ULLong ULLong h = refl
kind_same _ _ h = absurd cc

mutual
  pub typ_same : (s t : Typ) → typ_eq s t ≡ true → s ≡ t
  typ_same (typ f c v) (typ g d w) h = let p = and_parts (flag_eq c d && flag_eq v w) (form_eq f g) h in let q = and_parts (flag_eq c d) (flag_eq v w) p.0 in
      let e = form_same f g p.1 in let i = flag_same c d q.0 in let j = flag_same v w q.1 in cc

  form_same : (f g : Form) → form_eq f g ≡ true → f ≡ g
  form_same void void h = refl
  form_same (int j) (int k) h = ap int (kind_same j k h)
  form_same (enum m s) (enum n t) h = let p = and_parts (name_eq m n) (flag_eq s t) h in let e = name_same m n p.0 in let i = flag_same s t p.1 in cc
  form_same null null h = refl
  form_same (ptr s) (ptr t) h = ap ptr (typ_same s t h)
  form_same (ref s) (ref t) h = ap ref (typ_same s t h)
  form_same (array s m) (array t n) h = let p = and_parts (m == n) (typ_eq s t) h in let e = eqb-true m n p.0 in let i = typ_same s t p.1 in cc
  form_same (func s) (func t) h = ap func (signature_same s t h)
  form_same (class m) (class n) h = ap class (eqb-true m n h)
  form_same (closure m) (closure n) h = ap closure (eqb-true m n h)
  form_same (tx_ex s) (tx_ex t) h = ap tx_ex (typ_same s t h)
  form_same _ _ h = absurd cc

  signature_same : (s t : Signature) → signature_eq s t ≡ true → s ≡ t
  signature_same (signature ps r s) (signature qs q t) h = let p = and_parts (flag_eq s t && typ_eq r q) (typs_eq ps qs) h in let o =
      and_parts (flag_eq s t) (typ_eq r q) p.0 in let e = typs_same ps qs p.1 in let i = flag_same s t o.0 in let j = typ_same r q o.1 in cc

  typs_same : (s t : Typs) → typs_eq s t ≡ true → s ≡ t
  typs_same none none h = refl
  typs_same none (more t ts) h = absurd cc
  typs_same (more s ss) none h = absurd cc
  typs_same (more s ss) (more t ts) h = let p = and_parts (typ_eq s t) (typs_eq ss ts) h in let e = typ_same s t p.0 in let i = typs_same ss ts p.1 in cc
