-- The fields of an exception are its scalars.
use Rattle.std.proofs.Common.{◌≡◌, refl, sym, ap, ap₂, ◌∙◌, subst, ℕ, zero, suc, ◌+◌, ◌*◌, ◌/◌, ◌==◌, ◌<◌, ◌≤◌, Bool, true, false, not, ◌&&◌, ◌||◌}
use Rattle.std.proofs.Common.{nat_le, nat_lt, List}
use Rattle.std.proofs.Common.{[], ◌∷◌, ◌++◌, length, take, slice_get, Option, Some, None, is_some, cond, unwrap_or, arith, le-leb, leb-true, ltb-true}
use Rattle.std.proofs.Common.{eq-eqb, ne_eqb, append_assoc}
use Rattle.std.proofs.Math.Nat.{suc-mul, mul_assoc}
use Rattle.std.proofs.lemmas.Nat.{div-mul-add}
use Rattle.std.proofs.lemmas.Bool.{and_parts}
use Rattle.std.proofs.lemmas.List.{append-nil}
use Rattle.std.specs.List.{list_all}
use Rattle.elab_rules.specs.tx_ints.declared.kinds.IntKind.{IntKind}
use Rattle.elab_rules.specs.elab_ctx.tx_events.declared.TheConstants.{EXCEPTION_SIZE}
use Rattle.elab_rules.specs.cpp_types.Typ.{Typ, typ, void, int, enum, null, ptr, ref, array, func, class, closure, tx_ex}
use Rattle.elab_rules.specs.cpp_types.Class.{Class, Member, InOrder}
use Rattle.elab_rules.specs.cpp_types.declared.classes.At.{At}
use Rattle.elab_rules.specs.cpp_layout.Layout.{Extent, class_extent, head_items}
use Rattle.elab_rules.specs.cpp_layout.Layout.{member_extent, end_from, next_multiple}
use Rattle.elab_rules.specs.cpp_layout.Measured.{member_extents, member_offset}
use Rattle.elab_rules.specs.cpp_tree.Trees.{Trees, none, more}
use Rattle.elab_rules.specs.cpp_tree.Notation.{plain}
use Rattle.elab_rules.specs.cpp_tree.Typing.{head_of, form_in, kind_in, passes}
use Rattle.elab_rules.specs.cpp_tree.Parts.{size_in, where_counted, scalar_at, one_element, element_scalars, object_scalars, part_scalars, scalars_from}
use Rattle.elab_rules.specs.cpp_tree.Parts.{scalars_within, is_field_of, are_fields, is_value_form, are_scalars, part_of, count_of_parts}
use Rattle.elab_rules.specs.cpp_tree.Parts as told
use Rattle.elab_rules.specs.cpp_tree.WellFormed.{heads_of}
use Rattle.elab_rules.specs.Objects.{Part, parts_of, parts_in, base_part, members_from, size_of, followed_by, fields_of_parts, scalar_field, repeated}
use Rattle.elab_rules.specs.Objects.{fields_in}
use Rattle.elab_rules.specs.Objects.{class_fields, fields}
use Rattle.elab_rules.proofs.cpp_layout.Ends.{end_low, end_append}
use Rattle.elab_rules.proofs.cpp_layout.Nesting.{extents_aligned}
use Rattle.elab_fits.specs.Objects.{typ_ready, part_ready, class_ready, is_ready}
use Rattle.elab_fits.proofs.Equal.{kind_refl}
use Rattle.elab_fits.proofs.Nodes.{both}
use Rattle.elab_fits.proofs.Objects.{Sized, sized_from, size_is, element_sized, Laid, laid_from, few_members, part_is, count_is}
use Rattle.elab_fits.proofs.Objects.{typ_low, all_at, class_end, base_end}

-- Lists of scalars

abbrev pub Same : List told.Scalar → Trees → Type 0
Same ss ts = are_fields ss (heads_of ts) ≡ true

same_append : (ss us : List told.Scalar) (ts vs : Trees) → Same ss ts → Same us vs → Same (ss ++ us) (followed_by ts vs)
same_append [] us none vs h g = g
same_append [] us (more t ts) vs h g = absurd cc
same_append (s ∷ ss) us none vs h g = absurd cc
same_append (s ∷ ss) us (more t ts) vs h g = let a = and_parts (is_field_of s (head_of t).kind) (are_fields ss (heads_of ts)) h in
    both a.0 (same_append ss us ts vs a.1 g)

same_end : (ss : List told.Scalar) (ts : Trees) → Same ss ts → Same (ss ++ []) ts
same_end ss ts h = subst (λ (x : List told.Scalar). Same x ts) (sym (append-nil ss)) h

scalar_same : (at : At) (offset : ℕ) (o : Option IntKind) → Same (scalar_at offset o) (scalar_field at offset o)
scalar_same at offset None = refl
scalar_same at offset (Some k) = both (both (eq-eqb offset offset refl) (kind_refl k)) refl

counted : (at : ℕ) (ss : List told.Scalar) → at ≤ EXCEPTION_SIZE → where_counted at ss ≡ ss
counted at ss l = let e : nat_le at EXCEPTION_SIZE ≡ true = le-leb at EXCEPTION_SIZE l in ap (λ (b : Bool). cond b ss []) e

-- Elements of arrays

module _ (one : ℕ → List told.Scalar) (z : ℕ) where
  abbrev elements : ℕ → ℕ → List told.Scalar
  elements m o = element_scalars one z m o

  one_counted : (o : ℕ) → o ≤ EXCEPTION_SIZE → elements 1 o ≡ one o ++ []
  one_counted o l = counted o (one o ++ []) l

  elements_split : (c m o : ℕ) → o + c * z + m * z ≤ EXCEPTION_SIZE → elements (c + m) o ≡ elements c o ++ elements m (o + c * z)
  elements_split zero m o l =
      let a : 0 + m ≡ m = omega arith in
      let b : 0 * z ≡ 0 = omega arith in
      let d : o ≡ o + 0 * z = omega (arith, b) in
      ap₂ elements a d
  elements_split (suc c) m o l =
      let q : suc c * z ≡ c * z + z = suc-mul c z in
      let a : suc c + m ≡ suc (c + m) = omega arith in
      let b : (o + z) + c * z ≡ o + suc c * z = omega (arith, q) in
      let low : o ≤ EXCEPTION_SIZE = omega (arith, l) in
      let bound : (o + z) + c * z + m * z ≤ EXCEPTION_SIZE = omega (arith, q, l) in
      ap (λ (x : ℕ). elements x o) a ∙ counted o (one o ++ elements (c + m) (o + z)) low
      ∙ ap (λ (x : List told.Scalar). one o ++ x) (elements_split c m (o + z) bound)
      ∙ sym (append_assoc (one o) (elements c (o + z)) (elements m ((o + z) + c * z)))
      ∙ ap₂ (λ (x y : List told.Scalar). x ++ y) (sym (counted o (one o ++ elements c (o + z)) low)) (ap (elements m) b)

  repeated_same : (c n o : ℕ) (each : ℕ → Trees) → ((x : ℕ) → x + c * z ≤ EXCEPTION_SIZE → Same (elements c x) (each x))
      → o + n * (c * z) ≤ EXCEPTION_SIZE → Same (elements (n * c) o) (repeated each o (c * z) n)
  repeated_same c zero o each h l = let a : 0 * c ≡ 0 = omega arith in subst (λ (x : ℕ). Same (elements x o) none) (sym a) refl
  repeated_same c (suc n) o each h l =
      let q : suc n * c ≡ n * c + c = suc-mul n c in
      let r : suc n * (c * z) ≡ n * (c * z) + c * z = suc-mul n (c * z) in
      let t : (n * c) * z ≡ n * (c * z) = mul_assoc n c z in
      let a : suc n * c ≡ c + n * c = omega (arith, q) in
      let here : o + c * z ≤ EXCEPTION_SIZE = omega (arith, r, l) in
      let behind : (o + c * z) + n * (c * z) ≤ EXCEPTION_SIZE = omega (arith, r, l) in
      let bound : o + c * z + (n * c) * z ≤ EXCEPTION_SIZE = omega (arith, r, t, l) in
      subst (λ (x : List told.Scalar). Same x (followed_by (each o) (repeated each (o + c * z) (c * z) n)))
      (sym (ap (λ (x : ℕ). elements x o) a ∙ elements_split c (n * c) o bound))
      (same_append (elements c o) (elements (n * c) (o + c * z)) (each o) (repeated each (o + c * z) (c * z) n) (h o here)
      (repeated_same c n (o + c * z) each h behind))

-- Types

abbrev many : Typ → ℕ
many (typ (array t n) c v) = n * many t
many t = 1

record Element (classes : List Class) (t : Typ) : Type 0 where
  sized : Sized classes (told.element_of t)
  low : 1 ≤ size_of classes (told.element_of t)
  size : size_of classes t ≡ many t * size_of classes (told.element_of t)

-- a type that is its own element, or an exception with its value
own_element : (classes : List Class) (t u : Typ) → Sized classes u → 1 ≤ size_of classes u → size_of classes t ≡ size_of classes u → told.element_of t ≡ u
    → many t ≡ 1 → Element classes t
own_element classes t u h l s e m = record {
  sized = subst (Sized classes) (sym e) h;
  low = subst (λ (x : Typ). 1 ≤ size_of classes x) (sym e) l;
  size = s ∙ (let a : 1 * size_of classes u ≡ size_of classes u = omega arith in sym a)
      ∙ ap₂ (λ (x : ℕ) (y : Typ). x * size_of classes y) (sym m) (sym e);
}

low_zero : (z : ℕ) → 1 ≤ z → (z == 0) ≡ false
low_zero z l = ne_eqb z 0 (λ e. omega (arith, e, l))

divided : (m z : ℕ) → 1 ≤ z → (m * z) / z ≡ m
divided m z l = let a : m * z ≡ m * z + 0 = omega arith in ap (λ (x : ℕ). x / z) a ∙ div-mul-add m z 0 (omega (arith, l))

module _ (classes : List Class) (p : ℕ → Bool) (r : Bool) where
  element : (t : Typ) → typ_ready p r t ≡ true → Sized classes t → Element classes t
  element (typ void c v) q h = absurd cc
  element (typ (int k) c v) q h = own_element classes (typ (int k) c v) (typ (int k) c v) h (typ_low classes p r (typ (int k) c v) q) refl refl refl
  element (typ (enum n s) c v) q h = own_element classes (typ (enum n s) c v) (typ (enum n s) c v) h (typ_low classes p r (typ (enum n s) c v) q) refl refl refl
  element (typ null c v) q h = own_element classes (typ null c v) (typ null c v) h (typ_low classes p r (typ null c v) q) refl refl refl
  element (typ (ptr t) c v) q h = own_element classes (typ (ptr t) c v) (typ (ptr t) c v) h (typ_low classes p r (typ (ptr t) c v) q) refl refl refl
  element (typ (ref t) c v) q h = own_element classes (typ (ref t) c v) (typ (ref t) c v) h (typ_low classes p r (typ (ref t) c v) q) refl refl refl
  element (typ (array (typ f d w) n) c v) q h =
      let a = and_parts (not (c || v)) (nat_lt 0 n && typ_ready p r (typ f d w)) q in
      let b = and_parts (nat_lt 0 n) (typ_ready p r (typ f d w)) a.1 in
      let l : 0 < n = ltb-true 0 n b.0 in
      let u = element (typ f d w) b.1 (element_sized classes (typ f d w) n c v (omega (arith, l)) h) in record {
        sized = u.sized;
        low = u.low;
        size = ap (λ (x : ℕ). n * x) u.size ∙ sym (mul_assoc n (many (typ f d w)) (size_of classes (told.element_of (typ f d w))));
      }
  element (typ (func s) c v) q h = absurd cc
  element (typ (class n) c v) q h = own_element classes (typ (class n) c v) (typ (class n) c v) h (typ_low classes p r (typ (class n) c v) q) refl refl refl
  element (typ (closure n) c v) q h = own_element classes (typ (closure n) c v) (typ (closure n) c v) h (typ_low classes p r (typ (closure n) c v) q) refl
      refl refl
  element (typ (tx_ex (typ (int k) d w)) c v) q h = own_element classes (typ (tx_ex (typ (int k) d w)) c v) (typ (int k) d w)
      (record { complete = h.complete; within = h.within }) (typ_low classes p r (typ (tx_ex (typ (int k) d w)) c v) q) refl refl refl
  element (typ (tx_ex (typ (enum n s) d w)) c v) q h = own_element classes (typ (tx_ex (typ (enum n s) d w)) c v) (typ (enum n s) d w)
      (record { complete = h.complete; within = h.within }) (typ_low classes p r (typ (tx_ex (typ (enum n s) d w)) c v) q) refl refl refl
  element (typ (tx_ex (typ null d w)) c v) q h = own_element classes (typ (tx_ex (typ null d w)) c v) (typ null d w)
      (record { complete = h.complete; within = h.within }) (typ_low classes p r (typ (tx_ex (typ null d w)) c v) q) refl refl refl
  element (typ (tx_ex (typ (ptr t) d w)) c v) q h = own_element classes (typ (tx_ex (typ (ptr t) d w)) c v) (typ (ptr t) d w)
      (record { complete = h.complete; within = h.within }) (typ_low classes p r (typ (tx_ex (typ (ptr t) d w)) c v) q) refl refl refl
  element (typ (tx_ex (typ (class n) d w)) c v) q h = own_element classes (typ (tx_ex (typ (class n) d w)) c v) (typ (class n) d w)
      (record { complete = h.complete; within = h.within }) (typ_low classes p r (typ (tx_ex (typ (class n) d w)) c v) q) refl refl refl
  element (typ (tx_ex (typ (closure n) d w)) c v) q h = own_element classes (typ (tx_ex (typ (closure n) d w)) c v) (typ (closure n) d w)
      (record { complete = h.complete; within = h.within }) (typ_low classes p r (typ (tx_ex (typ (closure n) d w)) c v) q) refl refl refl
  element (typ (tx_ex (typ f d w)) c v) q h = absurd cc

  module _ (each : ℕ → ℕ → Trees) (of_class : ℕ → ℕ → List told.Scalar) (at : At)
      (h : (n o : ℕ) → p n ≡ true → Sized classes (plain (class n)) → o + (class_extent classes n).size ≤ EXCEPTION_SIZE → Same (of_class n o) (each n o)) where
    leaf : (one : ℕ → List told.Scalar) (z o : ℕ) (ts : Trees) → o ≤ EXCEPTION_SIZE → Same (one o) ts → Same (element_scalars one z 1 o) ts
    leaf one z o ts l e = subst (λ (x : List told.Scalar). Same x ts) (sym (one_counted one z o l)) (same_end (one o) ts e)

    low_of : (o n : ℕ) → o + n ≤ EXCEPTION_SIZE → o ≤ EXCEPTION_SIZE
    low_of o n l = omega (arith, l)

    typ_same : (t : Typ) (o : ℕ) → typ_ready p r t ≡ true → Sized classes t → o + size_of classes t ≤ EXCEPTION_SIZE
        → Same (element_scalars (one_element of_class (form_in (told.element_of t))) (size_of classes (told.element_of t)) (many t) o)
        (fields_in each classes at o t)
    typ_same (typ void c v) o q s l = absurd cc
    typ_same (typ (int k) c v) o q s l = leaf (one_element of_class (int k)) (size_of classes (typ (int k) c v)) o (scalar_field at o (kind_in (int k)))
        (low_of o (size_of classes (typ (int k) c v)) l) (scalar_same at o (kind_in (int k)))
    typ_same (typ (enum n x) c v) o q s l = leaf (one_element of_class (enum n x)) (size_of classes (typ (enum n x) c v)) o
        (scalar_field at o (kind_in (enum n x)))
        (low_of o (size_of classes (typ (enum n x) c v)) l) (scalar_same at o (kind_in (enum n x)))
    typ_same (typ null c v) o q s l = leaf (one_element of_class null) (size_of classes (typ null c v)) o (scalar_field at o (kind_in null))
        (low_of o (size_of classes (typ null c v)) l) (scalar_same at o (kind_in null))
    typ_same (typ (ptr t) c v) o q s l = leaf (one_element of_class (ptr t)) (size_of classes (typ (ptr t) c v)) o (scalar_field at o (kind_in (ptr t)))
        (low_of o (size_of classes (typ (ptr t) c v)) l) (scalar_same at o (kind_in (ptr t)))
    typ_same (typ (ref t) c v) o q s l = leaf (one_element of_class (ref t)) (size_of classes (typ (ref t) c v)) o (scalar_field at o (kind_in (ref t)))
        (low_of o (size_of classes (typ (ref t) c v)) l) (scalar_same at o (kind_in (ref t)))
    typ_same (typ (array (typ f d w) n) c v) o q s l =
        let a = and_parts (not (c || v)) (nat_lt 0 n && typ_ready p r (typ f d w)) q in
        let b = and_parts (nat_lt 0 n) (typ_ready p r (typ f d w)) a.1 in
        let i : 0 < n = ltb-true 0 n b.0 in
        let u = element_sized classes (typ f d w) n c v (omega (arith, i)) s in
        let e = element (typ f d w) b.1 u in
        let z = size_of classes (told.element_of (typ f d w)) in
        let bound : o + n * (many (typ f d w) * z) ≤ EXCEPTION_SIZE = subst (λ (x : ℕ). o + n * x ≤ EXCEPTION_SIZE) e.size l in
        subst (λ (x : ℕ). Same (element_scalars (one_element of_class (form_in (told.element_of (typ f d w)))) z (n * many (typ f d w)) o)
        (repeated (λ (y : ℕ). fields_in each classes at y (typ f d w)) o x n)) (sym e.size)
        (repeated_same (one_element of_class (form_in (told.element_of (typ f d w)))) z (many (typ f d w)) n o
        (λ (y : ℕ). fields_in each classes at y (typ f d w))
        (λ y k. typ_same (typ f d w) y b.1 u (subst (λ (x : ℕ). y + x ≤ EXCEPTION_SIZE) (sym e.size) k)) bound)
    typ_same (typ (func x) c v) o q s l = absurd cc
    typ_same (typ (class n) c v) o q s l = leaf (one_element of_class (class n)) (size_of classes (typ (class n) c v)) o (each n o)
        (low_of o (size_of classes (typ (class n) c v)) l) (h n o q (record { complete = s.complete; within = s.within }) l)
    typ_same (typ (closure n) c v) o q s l = leaf (one_element of_class (closure n)) (size_of classes (typ (closure n) c v)) o (each n o)
        (low_of o (size_of classes (typ (closure n) c v)) l) (h n o q (record { complete = s.complete; within = s.within }) l)
    typ_same (typ (tx_ex (typ (int k) d w)) c v) o q s l = leaf (one_element of_class (int k)) (size_of classes (typ (int k) d w)) o
        (scalar_field at o (kind_in (int k)))
        (low_of o (size_of classes (typ (int k) d w)) l) (scalar_same at o (kind_in (int k)))
    typ_same (typ (tx_ex (typ (enum n x) d w)) c v) o q s l = leaf (one_element of_class (enum n x)) (size_of classes (typ (enum n x) d w)) o
        (scalar_field at o (kind_in (enum n x)))
        (low_of o (size_of classes (typ (enum n x) d w)) l) (scalar_same at o (kind_in (enum n x)))
    typ_same (typ (tx_ex (typ null d w)) c v) o q s l = leaf (one_element of_class null) (size_of classes (typ null d w)) o (scalar_field at o (kind_in null))
        (low_of o (size_of classes (typ null d w)) l) (scalar_same at o (kind_in null))
    typ_same (typ (tx_ex (typ (ptr t) d w)) c v) o q s l = leaf (one_element of_class (ptr t)) (size_of classes (typ (ptr t) d w)) o
        (scalar_field at o (kind_in (ptr t)))
        (low_of o (size_of classes (typ (ptr t) d w)) l) (scalar_same at o (kind_in (ptr t)))
    typ_same (typ (tx_ex (typ (class n) d w)) c v) o q s l = leaf (one_element of_class (class n)) (size_of classes (typ (class n) d w)) o (each n o)
        (low_of o (size_of classes (typ (class n) d w)) l) (h n o q (record { complete = s.complete; within = s.within }) l)
    typ_same (typ (tx_ex (typ (closure n) d w)) c v) o q s l = leaf (one_element of_class (closure n)) (size_of classes (typ (closure n) d w)) o (each n o)
        (low_of o (size_of classes (typ (closure n) d w)) l) (h n o q (record { complete = s.complete; within = s.within }) l)
    typ_same (typ (tx_ex (typ f d w)) c v) o q s l = absurd cc

    pub object_same : (t : Typ) (o : ℕ) → typ_ready p r t ≡ true → Sized classes t → o + size_of classes t ≤ EXCEPTION_SIZE
        → Same (object_scalars classes of_class t o) (fields_in each classes at o t)
    object_same t o q s l =
        let e = element t q s in
        let z = size_of classes (told.element_of t) in
        let one = one_element of_class (form_in (told.element_of t)) in
        let x : told.stride_of classes (told.element_of t) ≡ z = ap (λ (y : Option ℕ). unwrap_or y 0) (size_is classes (told.element_of t) e.sized) in
        let y : told.stride_of classes t ≡ many t * z = ap (λ (y : Option ℕ). unwrap_or y 0) (size_is classes t s) ∙ e.size in
        subst (λ (ss : List told.Scalar). Same ss (fields_in each classes at o t))
        (sym (ap₂ (λ (a b : ℕ). cond (a == 0) [] (element_scalars one a (b / a) o)) x y
        ∙ ap (λ (b : Bool). cond b [] (element_scalars one z ((many t * z) / z) o)) (low_zero z e.low)
        ∙ ap (λ (m : ℕ). element_scalars one z m o) (divided (many t) z e.low)))
        (typ_same t o q s l)

-- Where parts end

member_within : (classes : List Class) (s : ℕ) (ms : List Member) (i : ℕ) (m : Member) → slice_get ms i ≡ Some m
    → next_multiple (end_from s (member_extents classes (take i ms))) (member_extent (class_extent classes) m).align
    + (member_extent (class_extent classes) m).size ≤ end_from s (member_extents classes ms)
member_within classes s [] i m h = absurd cc
member_within classes s (x ∷ ms) zero m h =
    let e : Extent = member_extent (class_extent classes) x in
    let l = end_low (next_multiple s e.align + e.size) (member_extents classes ms) (extents_aligned classes ms) in
    let q : x ≡ m = cc in
    subst (λ (z : Member). next_multiple s (member_extent (class_extent classes) z).align + (member_extent (class_extent classes) z).size
    ≤ end_from s (member_extents classes (x ∷ ms))) q (omega arith)
member_within classes s (x ∷ ms) (suc i) m h = let e : Extent = member_extent (class_extent classes) x in
    member_within classes (next_multiple s e.align + e.size) ms i m h

module _ (classes : List Class) (o : InOrder classes) (n : ℕ) (l : Laid classes n) where
  abbrev EndsWithin : Part → Type 0
  EndsWithin q = q.offset + size_of classes q.typ ≤ (class_extent classes n).size

  member_ends : (i : ℕ) (m : Member) → slice_get l.owner.members i ≡ Some m → member_offset classes n l.owner i m + size_of classes m.typ ≤
      (class_extent classes n).size
  member_ends i m h =
      let head : List Extent = head_items (class_extent classes) classes n l.owner in
      let a = member_within classes (end_from 0 head) l.owner.members i m h in
      let b = end_append 0 head (member_extents classes (take i l.owner.members)) in
      let d = end_append 0 head (member_extents classes l.owner.members) in
      let e = class_end classes o n l in
      let x : next_multiple (end_from 0 (head ++ member_extents classes (take i l.owner.members))) (member_extent (class_extent classes) m).align
      ≡ next_multiple (end_from (end_from 0 head) (member_extents classes (take i l.owner.members))) (member_extent (class_extent classes) m).align =
      ap (λ (y : ℕ). next_multiple y (member_extent (class_extent classes) m).align) b in
      let f : member_offset classes n l.owner i m + size_of classes m.typ ≤ end_from (end_from 0 head) (member_extents classes l.owner.members) =
      subst (λ (y : ℕ). y + (member_extent (class_extent classes) m).size ≤ end_from (end_from 0 head) (member_extents classes l.owner.members)) (sym x) a in
      omega (arith, f, d, e)

  from_members : (i : ℕ) (ms : List Member) (k : ℕ) (q : Part) → ((j : ℕ) (m : Member) → slice_get ms j ≡ Some m → slice_get l.owner.members (i + j) ≡ Some m)
      → slice_get (members_from classes n l.owner i ms) k ≡ Some q → EndsWithin q
  from_members i [] k q f h = absurd cc
  from_members i (m ∷ ms) zero q f h =
      let e : i + 0 ≡ i = omega arith in
      let x : record { offset = member_offset classes n l.owner i m; typ = m.typ } ≡ q = cc in
      subst EndsWithin x (member_ends i m (ap (slice_get l.owner.members) (sym e) ∙ f 0 m refl))
  from_members i (m ∷ ms) (suc k) q f h = from_members (suc i) ms k q
      (λ j x y. let e : suc i + j ≡ i + suc j = omega arith in ap (slice_get l.owner.members) e ∙ f (suc j) x y) h

  part_ends_by : (b : Option ℕ) → l.owner.base ≡ b → (i : ℕ) (q : Part)
      → slice_get (base_part b ++ members_from classes n l.owner 0 l.owner.members) i ≡ Some q → EndsWithin q
  part_ends_by None e i q h = from_members 0 l.owner.members i q (λ j m x. let y : 0 + j ≡ j = omega arith in ap (slice_get l.owner.members) y ∙ x) h
  part_ends_by (Some b) e zero q h =
      let x : record { offset = 0; typ = plain (class b) } ≡ q = cc in
      let y = base_end classes n l.owner b e in
      let z = class_end classes o n l in
      let u : 0 + (class_extent classes b).size ≤ (class_extent classes n).size = omega (arith, y, z) in
      subst EndsWithin x u
  part_ends_by (Some b) e (suc i) q h = from_members 0 l.owner.members i q
      (λ j m x. let y : 0 + j ≡ j = omega arith in ap (slice_get l.owner.members) y ∙ x) h

  part_ends : (i : ℕ) (q : Part) → slice_get (parts_in classes n (Some l.owner)) i ≡ Some q → EndsWithin q
  part_ends i q h = part_ends_by l.owner.base refl i q h

-- Classes

abbrev shown : Part → told.Part
shown q = record { offset = q.offset; typ = q.typ }

record PartSame (classes : List Class) (of_class : ℕ → ℕ → List told.Scalar) (each : ℕ → ℕ → Trees) (at : At) (n o i : ℕ) (q : Part) : Type 0 where
  is : part_of classes n i ≡ Some (shown q)
  same : Same (object_scalars classes of_class q.typ (o + q.offset)) (fields_in each classes at (o + q.offset) q.typ)

parts_same : (classes : List Class) (of_class : ℕ → ℕ → List told.Scalar) (each : ℕ → ℕ → Trees) (at : At) (n o i : ℕ) (ps : List Part)
    → ((j : ℕ) (q : Part) → slice_get ps j ≡ Some q → PartSame classes of_class each at n o (i + j) q)
    → Same (scalars_from classes of_class n o (length ps) i) (fields_of_parts (λ (q : Part). fields_in each classes at (o + q.offset) q.typ) ps)
parts_same classes of_class each at n o i [] f = refl
parts_same classes of_class each at n o i (q ∷ ps) f =
    let a = f 0 q refl in
    let e : i ≡ i + 0 = omega arith in
    same_append (part_scalars classes of_class o (part_of classes n i)) (scalars_from classes of_class n o (length ps) (suc i))
    (fields_in each classes at (o + q.offset) q.typ) (fields_of_parts (λ (x : Part). fields_in each classes at (o + x.offset) x.typ) ps)
    (subst (λ (x : Option told.Part). Same (part_scalars classes of_class o x) (fields_in each classes at (o + q.offset) q.typ))
    (sym (ap (part_of classes n) e ∙ a.is)) a.same)
    (parts_same classes of_class each at n o (suc i) ps
    (λ j x h. let y : i + suc j ≡ suc i + j = omega arith in subst (λ (z : ℕ). PartSame classes of_class each at n o z x) y (f (suc j) x h)))

-- a class, by those in it
class_step : (classes : List Class) → InOrder classes → (r : Bool) (at : At) (depth : ℕ)
    → ((m i : ℕ) → class_ready depth classes r m ≡ true → Sized classes (plain (class m)) → i + (class_extent classes m).size ≤ EXCEPTION_SIZE
    → Same (scalars_within depth classes m i) (class_fields depth classes at m i))
    → (n o : ℕ) → class_ready (suc depth) classes r n ≡ true → Sized classes (plain (class n)) → o + (class_extent classes n).size ≤ EXCEPTION_SIZE
    → Same (scalars_within (suc depth) classes n o) (class_fields (suc depth) classes at n o)
class_step classes order r at depth below n o q s l =
    subst (λ (m : ℕ). Same (scalars_from classes (scalars_within depth classes) n o m 0) (class_fields (suc depth) classes at n o)) many_parts
    (subst (λ (ps : List Part). Same (scalars_from classes (scalars_within depth classes) n o (length (parts_in classes n (Some laid.owner))) 0)
    (fields_of_parts (λ (x : Part). fields_in (class_fields depth classes at) classes at (o + x.offset) x.typ) ps)) (sym found)
    (parts_same classes (scalars_within depth classes) (class_fields depth classes at) at n o 0 (parts_in classes n (Some laid.owner)) each_part))
  where
    laid : Laid classes n
    laid = laid_from classes n false false s

    found : parts_of classes n ≡ parts_in classes n (Some laid.owner)
    found = ap (parts_in classes n) laid.found

    ready : list_all (part_ready (class_ready depth classes r) r) (parts_in classes n (Some laid.owner)) ≡ true
    ready = ap (list_all (part_ready (class_ready depth classes r) r)) (sym found) ∙ q

    few : length laid.owner.members ≤ 1048576
    few = few_members classes order n laid (class_ready depth classes r) r ready

    many_parts : length (parts_in classes n (Some laid.owner)) ≡ count_of_parts classes n
    many_parts = count_is classes order n laid few

    each_part : (j : ℕ) (x : Part) → slice_get (parts_in classes n (Some laid.owner)) j ≡ Some x
        → PartSame classes (scalars_within depth classes) (class_fields depth classes at) at n o (0 + j) x
    each_part j x h =
        let y = part_is classes order n laid few j x h in
        let e : j ≡ 0 + j = omega arith in
        let w = part_ends classes order n laid j x h in
        let z : (o + x.offset) + size_of classes x.typ ≤ EXCEPTION_SIZE = omega (arith, w, l) in
        subst (λ (i : ℕ). PartSame classes (scalars_within depth classes) (class_fields depth classes at) at n o i x) e (record {
          is = y.is;
          same = object_same classes (class_ready depth classes r) r (class_fields depth classes at) (scalars_within depth classes) at
              below x.typ (o + x.offset)
              (all_at (part_ready (class_ready depth classes r) r) (parts_in classes n (Some laid.owner)) j x h ready) y.sized z;
        })

class_same : (classes : List Class) → InOrder classes → (r : Bool) (at : At) (depth n o : ℕ) → class_ready depth classes r n ≡ true
    → Sized classes (plain (class n)) → o + (class_extent classes n).size ≤ EXCEPTION_SIZE
    → Same (scalars_within depth classes n o) (class_fields depth classes at n o)
class_same classes order r at zero n o q s l = refl
class_same classes order r at (suc depth) n o q s l = class_step classes order r at depth (λ m i a b d. class_same classes order r at depth m i a b d) n o q s l

pub scalars_law : (classes : List Class) (references : Bool) (at : At) (t : Typ) → InOrder classes → is_value_form (form_in t) ≡ true
    → is_some (size_in classes t) ≡ true → nat_le (size_of classes t) EXCEPTION_SIZE ≡ true → is_ready classes references t ≡ true
    → are_scalars classes t (heads_of (fields classes at t)) ≡ true
scalars_law classes r at t order f s l q =
    let h = sized_from classes t s in
    let a : size_of classes t ≤ EXCEPTION_SIZE = leb-true (size_of classes t) EXCEPTION_SIZE l in
    let b : 0 + size_of classes t ≤ EXCEPTION_SIZE = omega (arith, a) in
    both (both f (ap (passes (λ (size : ℕ). nat_le size EXCEPTION_SIZE)) (size_is classes t h) ∙ l))
    (object_same classes (class_ready (length classes) classes r) r (class_fields (length classes) classes at) (scalars_within (length classes) classes) at
    (λ m i x y z. class_same classes order r at (length classes) m i x y z) t 0 q h b)
