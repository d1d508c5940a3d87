-- Types that are ready by one account of classes are so by another.
use Rattle.std.proofs.Common.{◌≡◌, refl, ℕ, zero, suc, Bool, true, false, not, ◌&&◌, ◌||◌, nat_lt, List, [], ◌∷◌, length}
use Rattle.std.proofs.lemmas.Bool.{and_parts, and_from}
use Rattle.std.specs.List.{list_all}
use Rattle.elab_rules.specs.cpp_types.Typ.{Typ, typ, Form, void, int, enum, null, ptr, ref, array, func, class, closure, tx_ex}
use Rattle.elab_rules.specs.cpp_types.Class.{Class}
use Rattle.elab_rules.specs.Objects.{Part, parts_of}
use Rattle.elab_fits.specs.Objects.{is_single, typ_ready, form_ready, part_ready, class_ready, ReadyFrom}

module _ (p q : ℕ → Bool) (r : Bool) (g : (n : ℕ) → p n ≡ true → q n ≡ true) where
  form_more : (own : Bool) (f : Form) → form_ready p r own f ≡ true → form_ready q r own f ≡ true
  form_more own void h = absurd cc
  form_more own (int k) h = refl
  form_more own (enum n s) h = refl
  form_more own null h = refl
  form_more own (ptr t) h = refl
  form_more own (ref t) h = h
  form_more own (array (typ f c v) n) h =
      let a = and_parts (not own) (nat_lt 0 n && form_ready p r (c || v) f) h in
      let b = and_parts (nat_lt 0 n) (form_ready p r (c || v) f) a.1 in
      and_from (not own) (nat_lt 0 n && form_ready q r (c || v) f) a.0 (and_from (nat_lt 0 n) (form_ready q r (c || v) f) b.0 (form_more (c || v) f b.1))
  form_more own (func s) h = absurd cc
  form_more own (class n) h = g n h
  form_more own (closure n) h = g n h
  form_more own (tx_ex (typ f c v)) h = let a = and_parts (is_single f) (form_ready p r false f) h in
      and_from (is_single f) (form_ready q r false f) a.0 (form_more false f a.1)

  typ_more : (t : Typ) → typ_ready p r t ≡ true → typ_ready q r t ≡ true
  typ_more (typ f c v) h = form_more (c || v) f h

  parts_more : (ps : List Part) → list_all (part_ready p r) ps ≡ true → list_all (part_ready q r) ps ≡ true
  parts_more [] h = refl
  parts_more (x ∷ ps) h = let a = and_parts (part_ready p r x) (list_all (part_ready p r) ps) h in
      and_from (part_ready q r x) (list_all (part_ready q r) ps) (typ_more x.typ a.0) (parts_more ps a.1)

class_by : (classes : List Class) (r : Bool) (p : ℕ → Bool) → ((n : ℕ) → p n ≡ true → list_all (part_ready p r) (parts_of classes n) ≡ true)
    → (depth n : ℕ) → p n ≡ true → class_ready depth classes r n ≡ true
class_by classes r p h zero n q = refl
class_by classes r p h (suc depth) n q = parts_more p (class_ready depth classes r) r (class_by classes r p h depth) (parts_of classes n) (h n q)

pub ready_law : ReadyFrom
ready_law classes r p h t q = typ_more p (class_ready (length classes) classes r) r (class_by classes r p h (length classes)) t q
