-- Types of objects that have no volatile part, and of what builds them.
use Rattle.std.proofs.Common.{◌≡◌, ◌∙◌, ℕ, zero, suc, ◌*◌, ◌-◌, ◌==◌, nat_lt, nat_le, Bool, true, false, not, ◌&&◌, ◌||◌, List, [], ◌∷◌, Option, Some}
use Rattle.std.proofs.Common.{None}
use Rattle.std.proofs.Common.{slice_get, ap, sym, subst, refl, eqb-true, cond}
use Rattle.std.specs.Prelude.{option_map, option_and_then, is_some}
use Rattle.std.specs.List.{list_any}
use Rattle.std.proofs.lemmas.Bool.{false≢true, and_parts, or_parts}
use Rattle.cpp_types.specs.Typ.{Typ, typ, Form, void, int, enum, null, ptr, ref, array, func, class, closure, tx_ex}
use Rattle.cpp_types.specs.Class.{Class, Member}
use Rattle.cpp_types.specs.Conversion.{is_object_form}
use Rattle.cpp_types.specs.Equal.{flag_eq, typ_eq, form_eq}
use Rattle.cpp_tree.specs.tx_ints.declared.kinds.IntKind.{IntKind}
use Rattle.cpp_tree.specs.Typing.{Head, passes, form_in, is_class_typ, is_void, qualified, without_exception, same_shape, builds, is_prvalue}
use Rattle.cpp_tree.specs.Typing.{is_prvalue_of, is_class_prvalue, scalar_of, goes_both_ways}
use Rattle.cpp_tree.specs.Parts.{Part, part_of, part_in, part_behind, member_part, sized_class, size_in, is_at, is_piece_at, is_piece_of, are_part_pieces}
use Rattle.cpp_tree.specs.Parts.{are_class_pieces, are_element_pieces, are_pieces, are_elements, has_size, is_last}
use Rattle.cpp_tree.specs.cpp_layout.Measured.{member_offset}
use Rattle.cpp_tree.specs.Roles.{is_throw}
use Rattle.cpp_tree.specs.Rows.{is_access, is_branch, same_value}
use Rattle.cpp_types.specs.declared.ranks.Cat.{Cat}
use Rattle.cpp_types.specs.declared.ranks.Cat.TheVariants.{Lvalue, Prvalue}
use Rattle.tx_unsafe.specs.Volatile.{is_volatile_object, is_volatile_form, is_class_object, is_class_form, is_volatile_class, is_volatile_member}
use Rattle.tx_unsafe.specs.Volatile.{has_volatile_part_by}

abbrev pub Marks : Type 0
Marks = ℕ → Bool

-- Tests

pub or_three : (R : Type 0) (a b c : Bool) → (a || b || c) ≡ true → (a ≡ true → R) → (b ≡ true → R) → (c ≡ true → R) → R
or_three R true b c h f g k = f refl
or_three R false true c h f g k = g refl
or_three R false false c h f g k = k h

pub or_two : (R : Type 0) (a b : Bool) → (a || b) ≡ true → (a ≡ true → R) → (b ≡ true → R) → R
or_two R true b h f g = f refl
or_two R false b h f g = g h

pub first_of_three : (a b c : Bool) → a ≡ true → (a || b || c) ≡ true
first_of_three true b c h = refl
first_of_three false b c h = absurd cc

pub second_of_three : (a b c : Bool) → b ≡ true → (a || b || c) ≡ true
second_of_three true b c h = refl
second_of_three false true c h = refl
second_of_three false false c h = absurd cc

pub third_of_three : (a b c : Bool) → c ≡ true → (a || b || c) ≡ true
third_of_three true b c h = refl
third_of_three false true c h = refl
third_of_three false false c h = h

pub and_three : (a b c : Bool) → (a && b && c) ≡ true → (b ≡ true) × (c ≡ true)
and_three true true c h = (refl, h)
and_three true false c h = absurd cc
and_three false b c h = absurd cc

pub not_false : (b : Bool) → b ≡ false → not b ≡ true
not_false true h = absurd cc
not_false false h = refl

-- Types that are equal

flag_same : (a b : Bool) → flag_eq a b ≡ true → a ≡ b
flag_same true b h = sym h
flag_same false true h = absurd cc
flag_same false false h = refl

or_same : (a b c d : Bool) → a ≡ b → c ≡ d → (a || c) ≡ (b || d)
or_same a b c d e f = ap (λ z. z || c) e ∙ ap (λ z. b || z) f

mutual
  pub same_volatile : (v : Marks) (s t : Typ) → typ_eq s t ≡ true → is_volatile_object v s ≡ is_volatile_object v t
  same_volatile v (typ f c p) (typ g d q) h = let a = and_parts _ _ h in let b = and_parts _ _ a.0 in
      or_same p q (is_volatile_form v f) (is_volatile_form v g) (flag_same p q b.1) (same_form v f g a.1)

  same_form : (v : Marks) (f g : Form) → form_eq f g ≡ true → is_volatile_form v f ≡ is_volatile_form v g
  same_form v void void h = refl
  same_form v (int j) (int k) h = refl
  same_form v (enum m s) (enum n t) h = refl
  same_form v null null h = refl
  same_form v (ptr s) (ptr t) h = refl
  same_form v (ref s) (ref t) h = refl
  same_form v (array s m) (array t n) h = same_volatile v s t (and_parts _ _ h).1
  same_form v (func s) (func t) h = refl
  same_form v (class m) (class n) h = ap v (eqb-true m n h)
  same_form v (closure m) (closure n) h = ap v (eqb-true m n h)
  same_form v (tx_ex s) (tx_ex t) h = same_volatile v s t h
  same_form v f g h = absurd cc

pub object_same : (f g : Form) → form_eq f g ≡ true → is_object_form f ≡ true → is_object_form g ≡ true
object_same (class m) (class n) h o = refl
object_same (closure m) (closure n) h o = refl
object_same (tx_ex s) (tx_ex t) h o = refl
object_same (class m) g h o = absurd cc
object_same (closure m) g h o = absurd cc
object_same (tx_ex s) g h o = absurd cc
object_same f g h o = absurd cc

class_form : (f : Form) → is_object_form f ≡ true → is_class_form f ≡ true
class_form (class n) h = refl
class_form (closure n) h = refl
class_form (tx_ex t) h = refl
class_form f h = absurd cc

pub class_object : (t : Typ) → is_class_typ t ≡ true → is_class_object t ≡ true
class_object (typ f c v) h = class_form f h

pub equal_class : (s t : Typ) → typ_eq s t ≡ true → is_class_typ s ≡ true → is_class_typ t ≡ true
equal_class (typ f c p) (typ g d q) h o = object_same f g (and_parts _ _ h).1 o

mutual
  pub equal_object : (s t : Typ) → typ_eq s t ≡ true → is_class_object s ≡ is_class_object t
  equal_object (typ f c p) (typ g d q) h = equal_form f g (and_parts _ _ h).1

  equal_form : (f g : Form) → form_eq f g ≡ true → is_class_form f ≡ is_class_form g
  equal_form (array s m) (array t n) h = equal_object s t (and_parts _ _ h).1
  equal_form void void h = refl
  equal_form (int j) (int k) h = refl
  equal_form (enum m s) (enum n t) h = refl
  equal_form null null h = refl
  equal_form (ptr s) (ptr t) h = refl
  equal_form (ref s) (ref t) h = refl
  equal_form (func s) (func t) h = refl
  equal_form (class m) (class n) h = refl
  equal_form (closure m) (closure n) h = refl
  equal_form (tx_ex s) (tx_ex t) h = refl
  equal_form f g h = absurd cc

-- of one form
shaped_form : (f g : Form) (c v d w : Bool) → is_object_form f ≡ true → same_shape (typ f c v) (typ g d w) ≡ true → is_object_form g ≡ true
shaped_form (class m) g c v d w o h = object_same (class m) g h o
shaped_form (closure m) g c v d w o h = object_same (closure m) g h o
shaped_form (tx_ex s) g c v d w o h = object_same (tx_ex s) g h o
shaped_form f g c v d w o h = absurd cc

pub shaped_class : (s t : Typ) → is_class_typ s ≡ true → same_shape s t ≡ true → is_class_typ t ≡ true
shaped_class (typ f c v) (typ g d w) o h = shaped_form f g c v d w o h

-- Objects without a volatile part

abbrev pub Dull : Marks → Typ → Type 0
Dull v t = is_volatile_object v t ≡ false

pub dull_value : (v : Marks) (t : Typ) → Dull v t → Dull v (without_exception t)
dull_value v (typ (tx_ex (typ f d w)) c p) h = value_dull p w (is_volatile_form v f) h
  where
    value_dull : (p w x : Bool) → (p || (w || x)) ≡ false → (p || x) ≡ false
    value_dull true w x h = h
    value_dull false true x h = absurd cc
    value_dull false false x h = h
dull_value v (typ void c p) h = h
dull_value v (typ (int k) c p) h = h
dull_value v (typ (enum n s) c p) h = h
dull_value v (typ null c p) h = h
dull_value v (typ (ptr t) c p) h = h
dull_value v (typ (ref t) c p) h = h
dull_value v (typ (array t n) c p) h = h
dull_value v (typ (func s) c p) h = h
dull_value v (typ (class n) c p) h = h
dull_value v (typ (closure n) c p) h = h

mutual
  pub qualified_same : (v : Marks) (q : Bool) (t : Typ) → is_volatile_object v (qualified q false t) ≡ is_volatile_object v t
  qualified_same v q (typ (array t n) d w) = ap (λ z. w || z) (qualified_same v q t)
  qualified_same v q (typ void d w) = refl
  qualified_same v q (typ (int k) d w) = refl
  qualified_same v q (typ (enum n s) d w) = refl
  qualified_same v q (typ null d w) = refl
  qualified_same v q (typ (ptr t) d w) = refl
  qualified_same v q (typ (ref t) d w) = by_word w
    where
      by_word : (w : Bool) → is_volatile_object v (qualified q false (typ (ref t) d w)) ≡ (w || false)
      by_word true = refl
      by_word false = refl
  qualified_same v q (typ (func s) d w) = refl
  qualified_same v q (typ (class n) d w) = refl
  qualified_same v q (typ (closure n) d w) = refl
  qualified_same v q (typ (tx_ex t) d w) = refl

-- What builds an object: of a class it is seen by itself, and else it has no volatile part

abbrev pub is_calm : Marks → Head → Bool
is_calm v h = is_throw h.kind || is_class_object h.typ || not (is_volatile_object v h.typ)

pub calm_class : (v : Marks) (h : Head) → is_class_typ h.typ ≡ true → is_calm v h ≡ true
calm_class v h c = second_of_three (is_throw h.kind) (is_class_object h.typ) _ (class_object h.typ c)

pub calm_dull : (v : Marks) (h : Head) → Dull v h.typ → is_calm v h ≡ true
calm_dull v h d = third_of_three (is_throw h.kind) (is_class_object h.typ) _ (not_false (is_volatile_object v h.typ) d)

pub calm_throw : (v : Marks) (h : Head) → is_throw h.kind ≡ true → is_calm v h ≡ true
calm_throw v h t = first_of_three (is_throw h.kind) (is_class_object h.typ) _ t

pub built : (v : Marks) (t : Typ) (h : Head) → builds t h ≡ true → Dull v t → is_calm v h ≡ true
built v t h b d = or_three (is_calm v h ≡ true) (typ_eq t h.typ) (typ_eq (without_exception t) h.typ)
    (goes_both_ways h.kind && is_class_typ t && same_shape t h.typ) (and_parts (is_prvalue h.cat) _ b).1
    (λ e. calm_dull v h (sym (same_volatile v t h.typ e) ∙ d))
    (λ e. calm_dull v h (sym (same_volatile v (without_exception t) h.typ e) ∙ dull_value v t d))
    (λ e. let a = and_three (goes_both_ways h.kind) (is_class_typ t) (same_shape t h.typ) e in calm_class v h (shaped_class t h.typ a.0 a.1))

-- an object of a class that is no `std::tx_exception`
abbrev pub is_plain_class : Form → Bool
is_plain_class (class n) = true
is_plain_class (closure n) = true
is_plain_class f = false

plain_value : (f : Form) (c p : Bool) → is_plain_class f ≡ true → is_class_typ (without_exception (typ f c p)) ≡ true
plain_value (class n) c p h = refl
plain_value (closure n) c p h = refl
plain_value f c p h = absurd cc

plain_object : (f : Form) → is_plain_class f ≡ true → is_object_form f ≡ true
plain_object (class n) h = refl
plain_object (closure n) h = refl
plain_object f h = absurd cc

pub built_class : (v : Marks) (t : Typ) (h : Head) → is_plain_class (form_in t) ≡ true → builds t h ≡ true → is_calm v h ≡ true
built_class v (typ f c p) h o b = or_three (is_calm v h ≡ true) (typ_eq (typ f c p) h.typ) (typ_eq (without_exception (typ f c p)) h.typ)
    (goes_both_ways h.kind && is_class_typ (typ f c p) && same_shape (typ f c p) h.typ) (and_parts (is_prvalue h.cat) _ b).1
    (λ e. calm_class v h (equal_class (typ f c p) h.typ e (plain_object f o)))
    (λ e. calm_class v h (equal_class (without_exception (typ f c p)) h.typ e (plain_value f c p o)))
    (λ e. let a = and_three (goes_both_ways h.kind) (is_object_form f) (same_shape (typ f c p) h.typ) e in
    calm_class v h (shaped_class (typ f c p) h.typ a.0 a.1))

pub branch_calm : (v : Marks) (t : Typ) (cat : Cat) (h : Head) → is_class_prvalue t cat ≡ true → is_branch t cat h ≡ true → is_calm v h ≡ true
branch_calm v t Lvalue h c b = absurd cc
branch_calm v t Prvalue h c b = or_three (is_calm v h ≡ true) (is_throw h.kind) (is_void t) (is_prvalue_of t h) b (λ e. calm_throw v h e)
    (λ e. absurd (no_void t c e)) (λ e. calm_class v h (equal_class t h.typ (and_parts _ _ e).1 c))
  where
    no_void : (t : Typ) → is_class_typ t ≡ true → is_void t ≡ true → ⊥
    no_void (typ (class n) c v) o h = absurd cc
    no_void (typ (closure n) c v) o h = absurd cc
    no_void (typ (tx_ex u) c v) o h = absurd cc
    no_void (typ f c v) o h = absurd cc

pub value_equal : (t : Typ) (cat : Cat) (h : Head) → same_value t cat h ≡ true → typ_eq t h.typ ≡ true
value_equal t Lvalue h e = (and_parts _ _ e).1
value_equal t Prvalue h e = (and_parts _ _ e).1

-- Parts of such objects

none_or : (p x : Bool) → (p || x) ≡ false → p ≡ false
none_or true x h = absurd cc
none_or false x h = refl

pub unmarked_typ : (v : Marks) (f : Form) (c p : Bool) → Dull v (typ f c p) → p ≡ false
unmarked_typ v f c p h = none_or p (is_volatile_form v f) h

pub dull_form : (v : Marks) (f : Form) (c p : Bool) → Dull v (typ f c p) → is_volatile_form v f ≡ false
dull_form v f c p h = (or_parts p (is_volatile_form v f) h).1

-- what holds of classes whose parts have no volatile part
abbrev pub IsClosed : Marks → List Class → Type 0
IsClosed v classes = (n : ℕ) (c : Class) → slice_get classes n ≡ Some c → v n ≡ false → has_volatile_part_by v c ≡ false

member_dull : (v : Marks) (ms : List Member) (i : ℕ) (m : Member) → list_any (is_volatile_member v) ms ≡ false → slice_get ms i ≡ Some m → Dull v m.typ
member_dull v [] i m h e = absurd cc
member_dull v (x ∷ ms) zero m h e = let s : x ≡ m = cc in
    subst (λ (z : Member). Dull v z.typ) s (or_parts (is_volatile_member v x) (list_any (is_volatile_member v) ms) h).0
member_dull v (x ∷ ms) (suc i) m h e = member_dull v ms i m (or_parts (is_volatile_member v x) (list_any (is_volatile_member v) ms) h).1 e

abbrev PartDull : Marks → Option Part → Type 0
PartDull v None = Unit {0}
PartDull v (Some p) = Dull v p.typ

member_part_dull : (v : Marks) (classes : List Class) (n : ℕ) (c : Class) (i : ℕ) → list_any (is_volatile_member v) c.members ≡ false
    → PartDull v (member_part classes n c i)
member_part_dull v classes n c i h = by_index (nat_lt i 4294967296) (slice_get c.members i) refl
  where
    by_index : (b : Bool) (o : Option Member) → slice_get c.members i ≡ o
        → PartDull v (cond b (option_map (λ (m : Member). record { offset = member_offset classes n c i m; typ = m.typ }) o) None)
    by_index true (Some m) e = member_dull v c.members i m h e
    by_index true None e = tt
    by_index false o e = tt

part_behind_dull : (v : Marks) (classes : List Class) (n : ℕ) (c : Class) (o : Option ℕ) (i : ℕ) → list_any (is_volatile_member v) c.members ≡ false
    → passes v o ≡ false → PartDull v (part_behind classes n c o i)
part_behind_dull v classes n c None i h b = member_part_dull v classes n c i h
part_behind_dull v classes n c (Some k) zero h b = b
part_behind_dull v classes n c (Some k) (suc i) h b = member_part_dull v classes n c i h

pub part_dull : (v : Marks) (classes : List Class) (n i : ℕ) → IsClosed v classes → v n ≡ false → PartDull v (part_of classes n i)
part_dull v classes n i k h = by_size (is_some (size_in classes (typ (class n) false false))) (slice_get classes n) refl
  where
    by_size : (b : Bool) (o : Option Class) → slice_get classes n ≡ o → PartDull v (option_and_then (part_in classes n i) (cond b o None))
    by_size true (Some c) e = let a = or_parts (list_any (is_volatile_member v) c.members) (passes v c.base) (k n c e h) in
        part_behind_dull v classes n c c.base i a.0 a.1
    by_size true None e = tt
    by_size false o e = tt

abbrev pub AllDull : Marks → List Head → Type 0
AllDull v [] = Unit {0}
AllDull v (h ∷ hs) = Dull v h.typ × AllDull v hs

piece_dull : (v : Marks) (q p : Bool) (h : Head) (o : Option Part) → p ≡ false → PartDull v o → passes (is_piece_of q p h) o ≡ true → Dull v h.typ
piece_dull v q true h o e d s = absurd cc
piece_dull v q false h None e d s = absurd (false≢true s)
piece_dull v q false h (Some x) e d s =
    sym (same_volatile v (qualified q false x.typ) h.typ (and_parts (is_at x.offset h.kind) _ s).1) ∙ qualified_same v q x.typ ∙ d

part_pieces_dull : (v : Marks) (classes : List Class) (q p : Bool) (n i : ℕ) (hs : List Head) → IsClosed v classes → v n ≡ false → p ≡ false
    → are_part_pieces classes q p n i hs ≡ true → AllDull v hs
part_pieces_dull v classes q p n i [] k d e h = tt
part_pieces_dull v classes q p n i (x ∷ hs) k d e h =
    let a = and_parts (passes (is_piece_of q p x) (part_of classes n i)) (are_part_pieces classes q p n (suc i) hs) h in
    (piece_dull v q p x (part_of classes n i) e (part_dull v classes n i k d) a.0, part_pieces_dull v classes q p n (suc i) hs k d e a.1)

class_pieces_dull : (v : Marks) (classes : List Class) (q p : Bool) (n : ℕ) (hs : List Head) → IsClosed v classes → v n ≡ false → p ≡ false
    → are_class_pieces classes q p n hs ≡ true → AllDull v hs
class_pieces_dull v classes q p n hs k d e h = part_pieces_dull v classes q p n 0 hs k d e (and_parts (is_some (sized_class classes n)) _ h).1

element_pieces_dull : (v : Marks) (e : Typ) (size many i : ℕ) (hs : List Head) → Dull v e → are_element_pieces e size many i hs ≡ true → AllDull v hs
element_pieces_dull v e size many i [] d h = tt
element_pieces_dull v e size many i (x ∷ hs) d h =
    or_two (Dull v x.typ × AllDull v hs) _ _ (and_parts (nat_lt i many) _ h).1
    (λ a. let b = and_parts (is_last hs) _ a in
    (sym (same_volatile v (typ (array e (many - i)) false false) x.typ (and_parts (is_at (i * size) x.kind) _ b.1).1) ∙ d, last_only hs b.0))
    (λ a. let b = and_parts (is_piece_at (i * size) e x) _ a in
    (sym (same_volatile v e x.typ (and_parts (is_at (i * size) x.kind) _ b.0).1) ∙ d, element_pieces_dull v e size many (suc i) hs d b.1))
  where
    last_only : (hs : List Head) → is_last hs ≡ true → AllDull v hs
    last_only [] h = tt
    last_only (y ∷ hs) h = absurd (false≢true h)

sized_pieces_dull : (v : Marks) (e : Typ) (many : ℕ) (o : Option ℕ) (hs : List Head) → Dull v e
    → passes (λ (size : ℕ). are_element_pieces e size many 0 hs) o ≡ true → AllDull v hs
sized_pieces_dull v e many None hs d h = absurd (false≢true h)
sized_pieces_dull v e many (Some size) hs d h = element_pieces_dull v e size many 0 hs d h

pub pieces_dull : (v : Marks) (classes : List Class) (t : Typ) (hs : List Head) → IsClosed v classes → Dull v t → are_pieces classes t hs ≡ true → AllDull v hs
pieces_dull v classes (typ (class n) c p) hs k d h =
    class_pieces_dull v classes c p n hs k (dull_form v (class n) c p d) (unmarked_typ v (class n) c p d) h
pieces_dull v classes (typ (closure n) c p) hs k d h =
    class_pieces_dull v classes c p n hs k (dull_form v (closure n) c p d) (unmarked_typ v (closure n) c p d) h
pieces_dull v classes (typ (array e many) c p) hs k d h = sized_pieces_dull v e many (size_in classes e) hs (dull_form v (array e many) c p d) h
pieces_dull v classes t hs k d h = absurd (false≢true h)

pub elements_calm : (v : Marks) (classes : List Class) (count stride before : ℕ) (t : Typ) (h : Head) → Dull v t
    → are_elements classes count stride before t h ≡ true → is_calm v h ≡ true
elements_calm v classes count stride before (typ (array e many) c p) h d x =
    or_two (is_calm v h ≡ true) _ _ (and_parts (nat_le (before * many) count) _ x).1
    (λ a. built v e h (and_three (before * many == count) (builds e h) (has_size classes e stride) a).0 (dull_form v (array e many) c p d))
    (λ a. elements_calm v classes count stride (before * many) e h (dull_form v (array e many) c p d) a)
elements_calm v classes count stride before t h d x = absurd (false≢true x)

-- Scalars

pub plain_mark : (v : Marks) (k : IntKind) (w : Bool) (t : Typ) → is_access k w t ≡ true → (is_class_object t || not (is_volatile_object v t)) ≡ true
    → not w ≡ true
plain_mark v k false t a h = refl
plain_mark v k true (typ f c false) a h = absurd (false≢true (and_parts (scalar_of k (typ f c false)) _ a).1)
plain_mark v k true (typ (int j) c true) a h = absurd cc
plain_mark v k true (typ (enum n s) c true) a h = absurd cc
plain_mark v k true (typ null c true) a h = absurd cc
plain_mark v k true (typ (ptr t) c true) a h = absurd cc
plain_mark v k true (typ (ref t) c true) a h = absurd cc
plain_mark v k true (typ void c true) a h = absurd (false≢true a)
plain_mark v k true (typ (array t n) c true) a h = absurd (false≢true a)
plain_mark v k true (typ (func s) c true) a h = absurd (false≢true a)
plain_mark v k true (typ (class n) c true) a h = absurd (false≢true a)
plain_mark v k true (typ (closure n) c true) a h = absurd (false≢true a)
plain_mark v k true (typ (tx_ex t) c true) a h = absurd (false≢true a)

-- what is built by itself and seen, or has no volatile part
dull_by : (b th c m : Bool) → b ≡ true → th ≡ false → (b && (c && m)) ≡ false → (th || c || not m) ≡ true → m ≡ false
dull_by b th c false p q h g = refl
dull_by true false true true p q h g = absurd cc
dull_by true false false true p q h g = absurd cc
dull_by true true c true p q h g = absurd cc
dull_by false th c true p q h g = absurd cc

pub seen_or_dull : (v : Marks) (b : Bool) (h : Head) → b ≡ true → is_throw h.kind ≡ false → (b && is_volatile_class v h.typ) ≡ false → is_calm v h ≡ true
    → Dull v h.typ
seen_or_dull v b h e f s c = dull_by b (is_throw h.kind) (is_class_object h.typ) (is_volatile_object v h.typ) e f s c
