-- Elements of arrays that are built alike.
use Rattle.std.proofs.Common.{◌≡◌, refl, sym, ap, ◌∙◌, subst, ℕ, ◌*◌, ◌<◌, ◌≤◌, ◌==◌, Bool, true, false, ◌&&◌, ◌||◌, nat_le, nat_lt, arith}
use Rattle.std.proofs.Common.{ltb-true, le-leb, eq-eqb, mul_assoc, List}
use Rattle.std.proofs.lemmas.Bool.{and_parts, and_from, or_left, or_right}
use Rattle.std.proofs.lemmas.Nat.{mul-le}
use Rattle.elab_rules.specs.cpp_types.Typ.{Typ, typ, void, int, enum, null, ptr, ref, array, func, class, closure, tx_ex}
use Rattle.elab_rules.specs.cpp_types.Class.{Class}
use Rattle.elab_rules.specs.cpp_types.Equal.{typ_eq}
use Rattle.elab_rules.specs.cpp_tree.Typing.{Head, passes, builds, is_prvalue, is_class_typ, without_exception, same_shape, goes_both_ways}
use Rattle.elab_rules.specs.cpp_tree.Parts.{are_elements, has_size}
use Rattle.elab_rules.specs.Objects.{size_of, count_in, element_of, is_array}
use Rattle.elab_fits.specs.Objects.{typ_ready}
use Rattle.elab_fits.proofs.Objects.{Sized, size_is, element_sized}
use Rattle.elab_fits.proofs.Wholes.{qualified_none}
use Rattle.elab_fits.proofs.Equal.{typ_refl}
use Rattle.elab_fits.proofs.Destructions.{count_low}

-- what has exactly a type and is a prvalue builds an object of it
pub exact_builds : (t : Typ) (x : Head) → is_prvalue x.cat ≡ true → x.typ ≡ t → builds t x ≡ true
exact_builds t x h e = and_from (is_prvalue x.cat) (typ_eq t x.typ || typ_eq (without_exception t) x.typ
    || (goes_both_ways x.kind && is_class_typ t && same_shape t x.typ)) h
    (or_left (typ_eq t x.typ || typ_eq (without_exception t) x.typ) (goes_both_ways x.kind && is_class_typ t && same_shape t x.typ)
    (or_left (typ_eq t x.typ) (typ_eq (without_exception t) x.typ) (ap (λ (u : Typ). typ_eq t u) e ∙ typ_refl t)))

-- the element of an array without qualifiers of its own
array_element : (t : Typ) (m : ℕ) → element_of (typ (array t m) false false) ≡ element_of t
array_element t m = qualified_none (element_of t)

-- a type that is no array is that of its one element
pub own_element : (p : ℕ → Bool) (r : Bool) (t : Typ) → is_array t ≡ false → typ_ready p r t ≡ true → element_of t ≡ t
own_element p r (typ void true true) n h = refl
own_element p r (typ void true false) n h = refl
own_element p r (typ void false true) n h = refl
own_element p r (typ void false false) n h = refl
own_element p r (typ (int k) true true) n h = refl
own_element p r (typ (int k) true false) n h = refl
own_element p r (typ (int k) false true) n h = refl
own_element p r (typ (int k) false false) n h = refl
own_element p r (typ (enum m s) true true) n h = refl
own_element p r (typ (enum m s) true false) n h = refl
own_element p r (typ (enum m s) false true) n h = refl
own_element p r (typ (enum m s) false false) n h = refl
own_element p r (typ null true true) n h = refl
own_element p r (typ null true false) n h = refl
own_element p r (typ null false true) n h = refl
own_element p r (typ null false false) n h = refl
own_element p r (typ (ptr t) true true) n h = refl
own_element p r (typ (ptr t) true false) n h = refl
own_element p r (typ (ptr t) false true) n h = refl
own_element p r (typ (ptr t) false false) n h = refl
own_element p r (typ (ref t) true v) n h = let q = (and_parts r false h).1 in absurd cc
own_element p r (typ (ref t) false true) n h = let q = (and_parts r false h).1 in absurd cc
own_element p r (typ (ref t) false false) n h = refl
own_element p r (typ (array t m) c v) n h = absurd cc
own_element p r (typ (func s) c v) n h = absurd cc
own_element p r (typ (class m) true true) n h = refl
own_element p r (typ (class m) true false) n h = refl
own_element p r (typ (class m) false true) n h = refl
own_element p r (typ (class m) false false) n h = refl
own_element p r (typ (closure m) true true) n h = refl
own_element p r (typ (closure m) true false) n h = refl
own_element p r (typ (closure m) false true) n h = refl
own_element p r (typ (closure m) false false) n h = refl
own_element p r (typ (tx_ex t) true true) n h = refl
own_element p r (typ (tx_ex t) true false) n h = refl
own_element p r (typ (tx_ex t) false true) n h = refl
own_element p r (typ (tx_ex t) false false) n h = refl

module _ (classes : List Class) (p : ℕ → Bool) (r : Bool) (x : Head) where
  last_are : (count stride before m : ℕ) (t : Typ) → is_array t ≡ false → count_in t ≡ 1 → typ_ready p r t ≡ true → Sized classes t
      → builds (element_of t) x ≡ true → count ≡ before * (m * count_in t) → stride ≡ size_of classes (element_of t) → (c v : Bool)
      → are_elements classes count stride before (typ (array t m) c v) x ≡ true
  last_are count stride before m t n one q z b e g c v =
      let own = own_element p r t n q in
      let each : m * count_in t ≡ m = ap (λ (k : ℕ). m * k) one ∙ (omega arith) in
      let total : before * m ≡ count = sym (e ∙ ap (λ (k : ℕ). before * k) each) in
      let le : nat_le (before * m) count ≡ true = le-leb (before * m) count (omega arith) in
      let eq : (before * m == count) ≡ true = eq-eqb (before * m) count total in
      let i : builds t x ≡ true = subst (λ (k : Typ). builds k x ≡ true) own b in
      let d : has_size classes t stride ≡ true = ap (passes (λ (size : ℕ). size == stride)) (size_is classes t z)
      ∙ eq-eqb (size_of classes t) stride (sym (g ∙ ap (size_of classes) own)) in
      rw (le, eq, i, d) refl

  elements_are : (count stride before m : ℕ) (t : Typ) → 1 ≤ m → typ_ready p r t ≡ true → Sized classes t → builds (element_of t) x ≡ true
      → count ≡ before * (m * count_in t) → stride ≡ size_of classes (element_of t) → (c v : Bool)
      → are_elements classes count stride before (typ (array t m) c v) x ≡ true
  elements_are count stride before m (typ (array u j) false false) l q z b e g c v =
      let y = and_parts (nat_lt 0 j) (typ_ready p r u) q in
      let w : 0 < j = ltb-true 0 j y.0 in
      let i = count_low p r (typ (array u j) false false) q in
      let mul : (before * m) * 1 ≤ (before * m) * (j * count_in u) = mul-le (before * m) 1 (before * m) (j * count_in u) (omega arith) i in
      let total : count ≡ (before * m) * (j * count_in u) = e ∙ sym (mul_assoc before m (j * count_in u)) in
      let le : nat_le (before * m) count ≡ true = le-leb (before * m) count (omega arith) in
      let o = elements_are count stride (before * m) j u (omega arith) y.1 (element_sized classes u j false false (omega arith) z)
      (subst (λ (k : Typ). builds k x ≡ true) (array_element u j) b) total (g ∙ ap (size_of classes) (array_element u j)) false false in
      and_from (nat_le (before * m) count) _ le (or_right _ (are_elements classes count stride (before * m) (typ (array u j) false false) x) o)
  elements_are count stride before m (typ (array u j) true w) l q z b e g c v = absurd cc
  elements_are count stride before m (typ (array u j) false true) l q z b e g c v = absurd cc
  elements_are count stride before m (typ f a d) l q z b e g c v = last_are count stride before m (typ f a d) refl refl q z b e g c v

  -- an array whose elements are these, counted through its bounds
  pub array_are : (t : Typ) → is_array t ≡ true → typ_ready p r t ≡ true → Sized classes t → builds (element_of t) x ≡ true
      → are_elements classes (count_in t) (size_of classes (element_of t)) 1 t x ≡ true
  array_are (typ (array t m) true v) i q z b = absurd cc
  array_are (typ (array t m) false true) i q z b = absurd cc
  array_are (typ (array t m) false false) i q z b =
      let y = and_parts (nat_lt 0 m) (typ_ready p r t) q in
      let w : 0 < m = ltb-true 0 m y.0 in
      elements_are (m * count_in t) (size_of classes (element_of (typ (array t m) false false))) 1 m t (omega arith) y.1
      (element_sized classes t m false false (omega arith) z) (subst (λ (k : Typ). builds k x ≡ true) (array_element t m) b) (omega arith)
      (ap (size_of classes) (array_element t m)) false false
  array_are (typ f c v) i q z b = absurd cc
