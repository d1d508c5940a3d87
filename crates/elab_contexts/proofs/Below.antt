-- Types whose classes are among some first ones name classes of a longer list.
use Rattle.std.proofs.Common.{◌≡◌, refl, ℕ, ◌≤◌, true, arith, ltb-true, lt-ltb}
use Rattle.std.proofs.lemmas.Bool.{and_parts, and_from}
use Rattle.elab_rules.specs.cpp_types.Typ.{Typ, typ, Form, void, int, enum, null, ptr, ref, array, func, class, closure, tx_ex, Signature, signature, Typs, none, more}
use Rattle.elab_rules.specs.cpp_types.Class.{typ_below, form_below, signature_below, typs_below}

mutual
  typ_more : (m k : ℕ) (t : Typ) → m ≤ k → typ_below m t ≡ true → typ_below k t ≡ true
  typ_more m k (typ f c v) h e = form_more m k f h e

  form_more : (m k : ℕ) (f : Form) → m ≤ k → form_below m f ≡ true → form_below k f ≡ true
  form_more m k void h e = refl
  form_more m k (int j) h e = refl
  form_more m k (enum n s) h e = refl
  form_more m k null h e = refl
  form_more m k (ptr t) h e = typ_more m k t h e
  form_more m k (ref t) h e = typ_more m k t h e
  form_more m k (array t n) h e = typ_more m k t h e
  form_more m k (tx_ex t) h e = typ_more m k t h e
  form_more m k (func s) h e = signature_more m k s h e
  form_more m k (class n) h e = let g = ltb-true n m e in lt-ltb n k (omega (arith, g, h))
  form_more m k (closure n) h e = let g = ltb-true n m e in lt-ltb n k (omega (arith, g, h))

  pub signature_more : (m k : ℕ) (s : Signature) → m ≤ k → signature_below m s ≡ true → signature_below k s ≡ true
  signature_more m k (signature ps r safe) h e = let a = and_parts (typs_below m ps) (typ_below m r) e in
      and_from (typs_below k ps) (typ_below k r) (typs_more m k ps h a.0) (typ_more m k r h a.1)

  typs_more : (m k : ℕ) (ts : Typs) → m ≤ k → typs_below m ts ≡ true → typs_below k ts ≡ true
  typs_more m k none h e = refl
  typs_more m k (more t ts) h e = let a = and_parts (typ_below m t) (typs_below m ts) e in
      and_from (typ_below k t) (typs_below k ts) (typ_more m k t h a.0) (typs_more m k ts h a.1)
