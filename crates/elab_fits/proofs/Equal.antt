-- The tests of equality of types are true of a type and itself, and of nothing else.
use Rattle.std.proofs.Common.{◌≡◌, Bool, true, false, ◌&&◌, ◌==◌, ℕ, List, [], ◌∷◌, refl, sym, ap, eqb-true, eq-eqb}
use Rattle.std.proofs.lemmas.Bool.{and_parts, and_from}
use Rattle.elab_rules.specs.tx_ints.declared.kinds.IntKind.{IntKind}
use Rattle.elab_rules.specs.tx_ints.declared.kinds.IntKind.TheVariants.{Bool as BoolKind, Char, SChar, UChar, Short, UShort, Int, UInt, Long, ULong, LLong}
use Rattle.elab_rules.specs.tx_ints.declared.kinds.IntKind.TheVariants.{ULLong}
use Rattle.elab_rules.specs.cpp_types.Typ.{Typ, typ, Form, void, int, enum, null, ptr, ref, array, func, class, closure, tx_ex, Signature, signature, Typs}
use Rattle.elab_rules.specs.cpp_types.Typ.{none, more}
use Rattle.elab_rules.specs.cpp_types.Equal.{flag_eq, name_eq, kind_eq, typ_eq, form_eq, signature_eq, typs_eq}

pub flag_same : (a b : Bool) → flag_eq a b ≡ true → a ≡ b
flag_same true b h = sym h
flag_same false true h = absurd cc
flag_same false false h = refl

pub flag_refl : (a : Bool) → flag_eq a a ≡ true
flag_refl true = refl
flag_refl false = refl

name_same : (s t : List ℕ) → name_eq s t ≡ true → s ≡ t
name_same [] [] h = refl
name_same [] (b ∷ t) h = absurd cc
name_same (a ∷ s) [] h = absurd cc
name_same (a ∷ s) (b ∷ t) h = let p = and_parts (a == b) (name_eq s t) h in let e = eqb-true a b p.0 in let f = name_same s t p.1 in cc

name_refl : (s : List ℕ) → name_eq s s ≡ true
name_refl [] = refl
name_refl (a ∷ s) = and_from (a == a) (name_eq s s) (eq-eqb a a refl) (name_refl s)

pub kind_same : (j k : IntKind) → kind_eq j k ≡ true → j ≡ k
kind_same BoolKind BoolKind h = refl
kind_same Char Char h = refl
kind_same SChar SChar h = refl
kind_same UChar UChar h = refl
kind_same Short Short h = refl
kind_same UShort UShort h = refl
kind_same Int Int h = refl
kind_same UInt UInt h = refl
kind_same Long Long h = refl
kind_same ULong ULong h = refl
kind_same LLong LLong h = refl
kind_same ULLong ULLong h = refl
kind_same _ _ h = absurd cc

pub kind_refl : (k : IntKind) → kind_eq k k ≡ true
kind_refl BoolKind = refl
kind_refl Char = refl
kind_refl SChar = refl
kind_refl UChar = refl
kind_refl Short = refl
kind_refl UShort = refl
kind_refl Int = refl
kind_refl UInt = refl
kind_refl Long = refl
kind_refl ULong = refl
kind_refl LLong = refl
kind_refl ULLong = refl

mutual
  pub typ_same : (s t : Typ) → typ_eq s t ≡ true → s ≡ t
  typ_same (typ f c v) (typ g d w) h = let p = and_parts (flag_eq c d && flag_eq v w) (form_eq f g) h in let q = and_parts (flag_eq c d) (flag_eq v w) p.0 in
      let e = form_same f g p.1 in let i = flag_same c d q.0 in let j = flag_same v w q.1 in cc

  pub form_same : (f g : Form) → form_eq f g ≡ true → f ≡ g
  form_same void void h = refl
  form_same (int j) (int k) h = ap int (kind_same j k h)
  form_same (enum m s) (enum n t) h = let p = and_parts (name_eq m n) (flag_eq s t) h in let e = name_same m n p.0 in let i = flag_same s t p.1 in cc
  form_same null null h = refl
  form_same (ptr s) (ptr t) h = ap ptr (typ_same s t h)
  form_same (ref s) (ref t) h = ap ref (typ_same s t h)
  form_same (array s m) (array t n) h = let p = and_parts (m == n) (typ_eq s t) h in let e = eqb-true m n p.0 in let i = typ_same s t p.1 in cc
  form_same (func s) (func t) h = ap func (signature_same s t h)
  form_same (class m) (class n) h = ap class (eqb-true m n h)
  form_same (closure m) (closure n) h = ap closure (eqb-true m n h)
  form_same (tx_ex s) (tx_ex t) h = ap tx_ex (typ_same s t h)
  form_same _ _ h = absurd cc

  signature_same : (s t : Signature) → signature_eq s t ≡ true → s ≡ t
  signature_same (signature ps r s) (signature qs q t) h = let p = and_parts (flag_eq s t && typ_eq r q) (typs_eq ps qs) h in let o =
      and_parts (flag_eq s t) (typ_eq r q) p.0 in let e = typs_same ps qs p.1 in let i = flag_same s t o.0 in let j = typ_same r q o.1 in cc

  typs_same : (s t : Typs) → typs_eq s t ≡ true → s ≡ t
  typs_same none none h = refl
  typs_same none (more t ts) h = absurd cc
  typs_same (more s ss) none h = absurd cc
  typs_same (more s ss) (more t ts) h = let p = and_parts (typ_eq s t) (typs_eq ss ts) h in let e = typ_same s t p.0 in let i = typs_same ss ts p.1 in cc

mutual
  pub typ_refl : (t : Typ) → typ_eq t t ≡ true
  typ_refl (typ f c v) = and_from (flag_eq c c && flag_eq v v) (form_eq f f) (and_from (flag_eq c c) (flag_eq v v) (flag_refl c) (flag_refl v)) (form_refl f)

  pub form_refl : (f : Form) → form_eq f f ≡ true
  form_refl void = refl
  form_refl (int k) = kind_refl k
  form_refl (enum n s) = and_from (name_eq n n) (flag_eq s s) (name_refl n) (flag_refl s)
  form_refl null = refl
  form_refl (ptr t) = typ_refl t
  form_refl (ref t) = typ_refl t
  form_refl (array t n) = and_from (n == n) (typ_eq t t) (eq-eqb n n refl) (typ_refl t)
  form_refl (func s) = signature_refl s
  form_refl (class n) = eq-eqb n n refl
  form_refl (closure n) = eq-eqb n n refl
  form_refl (tx_ex t) = typ_refl t

  signature_refl : (s : Signature) → signature_eq s s ≡ true
  signature_refl (signature ps r s) = and_from (flag_eq s s && typ_eq r r) (typs_eq ps ps) (and_from (flag_eq s s) (typ_eq r r) (flag_refl s) (typ_refl r))
      (typs_refl ps)

  typs_refl : (ts : Typs) → typs_eq ts ts ≡ true
  typs_refl none = refl
  typs_refl (more t ts) = and_from (typ_eq t t) (typs_eq ts ts) (typ_refl t) (typs_refl ts)
