-- Parts of classes: how deep they nest, what sizes they have, and where they lie.
use Rattle.std.proofs.Common.{◌≡◌, refl, sym, ap, ◌∙◌, subst, ℕ, zero, suc, ◌+◌, ◌*◌, ◌<◌, ◌≤◌, Bool, true, false, not, ◌&&◌, ◌||◌, nat_le, nat_lt, max}
use Rattle.std.proofs.Common.{List, [], ◌∷◌, ◌++◌, length, slice_get, Option, Some, None, is_some, cond, option_and_then, option_map, unwrap_or, arith}
use Rattle.std.proofs.Common.{lt-ltb, le-ltb, le-leb, leb-true, ltb-true}
use Rattle.std.proofs.lemmas.Bool.{and_parts}
use Rattle.std.proofs.lemmas.Nat.{mul-le}
use Rattle.std.proofs.lemmas.Option.{slice_get_within}
use Rattle.std.specs.List.{list_all}
use Rattle.elab_rules.specs.cpp_types.Typ.{Typ, typ, Form, void, int, enum, null, ptr, ref, array, func, class, closure, tx_ex}
use Rattle.elab_rules.specs.cpp_types.Class.{Class, Member, InOrder, CompleteBelow, completion_of, held, held_form}
use Rattle.elab_rules.specs.cpp_types.Conversion.{form_of}
use Rattle.elab_rules.specs.cpp_layout.Layout.{Extent, form_extent, extent_of, extent_within, record_extent, class_extent, base_items, pointer_items}
use Rattle.elab_rules.specs.cpp_layout.Layout.{has_class_pointer, head_items, items_of, member_extent, end_from, greatest_align, next_multiple}
use Rattle.elab_rules.specs.cpp_layout.Measured.{member_extents, member_offset}
use Rattle.elab_rules.specs.cpp_tree.Typing.{form_in, qualified}
use Rattle.elab_rules.specs.cpp_tree.Parts as told
use Rattle.elab_rules.specs.cpp_types.Order.{each_passes}
use Rattle.elab_rules.specs.cpp_tree.Parts.{size_in, holds_complete, within_limit, sized_class, part_of, part_in, part_behind, member_part, count_of_parts}
use Rattle.elab_rules.specs.Objects.{Part, size_of, members_from, base_part, parts_in}
use Rattle.elab_rules.specs.cpp_tree.Notation.{plain}
use Rattle.elab_rules.proofs.cpp_layout.Ends.{Aligned, next_low, end_low, end_append, greatest_low}
use Rattle.elab_rules.proofs.cpp_layout.Forms.{kind_low}
use Rattle.elab_rules.proofs.cpp_layout.Nesting.{class_whole, extents_aligned}
use Rattle.elab_fits.specs.Objects.{is_single, typ_ready, form_ready, part_ready}

-- How deep classes nest: no deeper than there are classes that were completed before

abbrev pub before : ℕ → Option ℕ → ℕ
before k None = 0
before k (Some j) = cond (nat_lt j k) 1 0

-- how many classes were completed before `k` others were
abbrev pub rank : ℕ → List Class → ℕ
rank k [] = 0
rank k (c ∷ cs) = before k c.complete + rank k cs

before_up : (j k : ℕ) (o : Option ℕ) → j < k → before j o ≤ before k o
before_up j k None l = omega arith
before_up j k (Some i) l = up (nat_lt i j) refl
  where
    up : (b : Bool) → nat_lt i j ≡ b → cond (nat_lt i j) 1 0 ≤ cond (nat_lt i k) 1 0
    up true e = let h : i < j = ltb-true i j e in let g : nat_lt i k ≡ true = lt-ltb i k (omega arith) in rw (e, g) (omega arith)
    up false e = rw e (omega arith)

before_self : (j : ℕ) → before j (Some j) ≡ 0
before_self j = let e : nat_lt j j ≡ false = le-ltb j j (omega arith) in rw e refl

before_one : (j k : ℕ) → j < k → before k (Some j) ≡ 1
before_one j k l = let e : nat_lt j k ≡ true = lt-ltb j k l in rw e refl

before_most : (k : ℕ) (o : Option ℕ) → before k o ≤ 1
before_most k None = omega arith
before_most k (Some j) = most (nat_lt j k)
  where
    most : (b : Bool) → cond b 1 0 ≤ 1
    most true = omega arith
    most false = omega arith

rank_up : (j k : ℕ) (cs : List Class) → j < k → rank j cs ≤ rank k cs
rank_up j k [] l = omega arith
rank_up j k (c ∷ cs) l = let h = before_up j k c.complete l in let i = rank_up j k cs l in omega arith

rank_most : (k : ℕ) (cs : List Class) → rank k cs ≤ length cs
rank_most k [] = omega arith
rank_most k (c ∷ cs) = let h = before_most k c.complete in let i = rank_most k cs in omega arith

pub rank_below : (cs : List Class) (i j k : ℕ) (c : Class) → slice_get cs i ≡ Some c → c.complete ≡ Some j → j < k → rank j cs < rank k cs
rank_below [] i j k c h p l = absurd cc
rank_below (d ∷ cs) zero j k c h p l =
    let e : d.complete ≡ Some j = let q : d ≡ c = cc in ap (λ (z : Class). z.complete) q ∙ p in
    let f : before j d.complete ≡ 0 = ap (before j) e ∙ before_self j in
    let g : before k d.complete ≡ 1 = ap (before k) e ∙ before_one j k l in
    let u = rank_up j k cs l in
    omega arith
rank_below (d ∷ cs) (suc i) j k c h p l = let u = rank_below cs i j k c h p l in let v = before_up j k d.complete l in omega arith

pub rank_within : (cs : List Class) (i j : ℕ) (c : Class) → slice_get cs i ≡ Some c → c.complete ≡ Some j → rank j cs < length cs
rank_within [] i j c h p = absurd cc
rank_within (d ∷ cs) zero j c h p =
    let e : d.complete ≡ Some j = let q : d ≡ c = cc in ap (λ (z : Class). z.complete) q ∙ p in
    let f : before j d.complete ≡ 0 = ap (before j) e ∙ before_self j in
    let u = rank_most j cs in
    omega arith
rank_within (d ∷ cs) (suc i) j c h p = let u = rank_within cs i j c h p in let v = before_most j d.complete in omega arith

-- Sizes

pub record Sized (classes : List Class) (t : Typ) : Type 0 where
  pub complete : holds_complete classes (form_in t) ≡ true
  pub within : (extent_of classes t).size ≤ 1048576

sized_by : (b c : Bool) (n : ℕ) → is_some (cond b (cond c (Some n) None) None) ≡ true → (b ≡ true) × (c ≡ true)
sized_by true true n h = (refl, refl)
sized_by true false n h = absurd cc
sized_by false c n h = absurd cc

pub sized_from : (classes : List Class) (t : Typ) → is_some (size_in classes t) ≡ true → Sized classes t
sized_from classes t h = let p = sized_by (holds_complete classes (form_in t)) (nat_le (extent_of classes t).size 1048576) (extent_of classes t).size h in
    record { complete = p.0; within = leb-true (extent_of classes t).size 1048576 p.1 }

pub size_is : (classes : List Class) (t : Typ) → Sized classes t → size_in classes t ≡ Some (size_of classes t)
size_is classes t h = let c = h.complete in let l : nat_le (extent_of classes t).size 1048576 ≡ true = le-leb (extent_of classes t).size 1048576 h.within in
    rw (c, l) refl

array_extent : (g : ℕ → Extent) (t : Typ) (n : ℕ)
    → form_extent g (array t n) ≡ record { size = n * (form_extent g (form_of t)).size; align = (form_extent g (form_of t)).align }
array_extent g (typ f c v) n = refl

qualified_extent : (g : ℕ → Extent) (c v : Bool) (t : Typ) → form_extent g (form_of (qualified c v t)) ≡ form_extent g (form_of t)
qualified_extent g c v (typ void d w) = refl
qualified_extent g c v (typ (int k) d w) = refl
qualified_extent g c v (typ (enum n s) d w) = refl
qualified_extent g c v (typ null d w) = refl
qualified_extent g c v (typ (ptr t) d w) = refl
qualified_extent g c v (typ (ref t) d w) = refl
qualified_extent g c v (typ (array t n) d w) = array_extent g (qualified c v t) n
    ∙ ap (λ (e : Extent). let x : Extent = record { size = n * e.size; align = e.align } in x) (qualified_extent g c v t) ∙ sym (array_extent g t n)
qualified_extent g c v (typ (func s) d w) = refl
qualified_extent g c v (typ (class n) d w) = refl
qualified_extent g c v (typ (closure n) d w) = refl
qualified_extent g c v (typ (tx_ex t) d w) = refl

pub qualified_held : (c v : Bool) (t : Typ) → held (qualified c v t) ≡ held t
qualified_held c v (typ void d w) = refl
qualified_held c v (typ (int k) d w) = refl
qualified_held c v (typ (enum n s) d w) = refl
qualified_held c v (typ null d w) = refl
qualified_held c v (typ (ptr t) d w) = refl
qualified_held c v (typ (ref t) d w) = refl
qualified_held c v (typ (array t n) d w) = qualified_held c v t
qualified_held c v (typ (func s) d w) = refl
qualified_held c v (typ (class n) d w) = refl
qualified_held c v (typ (closure n) d w) = refl
qualified_held c v (typ (tx_ex t) d w) = refl

held_in : (t : Typ) → held_form (form_in t) ≡ held t
held_in (typ f c v) = refl

held_same : (classes : List Class) (s t : Typ) → held s ≡ held t → holds_complete classes (form_in s) ≡ holds_complete classes (form_in t)
held_same classes s t h = ap (each_passes (λ (n : ℕ). is_some (completion_of classes n))) (held_in s ∙ h ∙ sym (held_in t))

pub qualified_sized : (classes : List Class) (c v : Bool) (t : Typ) → Sized classes t → Sized classes (qualified c v t)
qualified_sized classes c v t h = record {
  complete = held_same classes (qualified c v t) t (qualified_held c v t) ∙ h.complete;
  within = subst (λ (e : Extent). e.size ≤ 1048576) (sym (qualified_extent (class_extent classes) c v t)) h.within;
}

pub qualified_size : (classes : List Class) (c v : Bool) (t : Typ) → size_of classes (qualified c v t) ≡ size_of classes t
qualified_size classes c v t = ap (λ (e : Extent). e.size) (qualified_extent (class_extent classes) c v t)

-- an element has a size where the array has one
pub element_sized : (classes : List Class) (t : Typ) (n : ℕ) (c v : Bool) → 1 ≤ n → Sized classes (typ (array t n) c v) → Sized classes t
element_sized classes (typ f d w) n c v l h =
    let s : ℕ = (form_extent (class_extent classes) f).size in
    let m : 1 * s ≤ n * s = mul-le 1 s n s l (omega arith) in
    let b : n * s ≤ 1048576 = h.within in
    record { complete = h.complete; within = omega arith }

-- Sizes of parts

pub record Laid (classes : List Class) (n : ℕ) : Type 0 where
  pub number : ℕ
  pub owner : Class
  pub found : slice_get classes n ≡ Some owner
  pub complete : owner.complete ≡ Some number
  pub within : (class_extent classes n).size ≤ 1048576

laid_by : (classes : List Class) (n : ℕ) (o : Option Class) → slice_get classes n ≡ o → is_some (option_and_then (λ (c : Class). c.complete) o) ≡ true
    → (class_extent classes n).size ≤ 1048576 → Laid classes n
laid_by classes n None e h l = absurd cc
laid_by classes n (Some c) e h l = by c.complete refl
  where
    by : (x : Option ℕ) → c.complete ≡ x → Laid classes n
    by (Some k) p = record { number = k; owner = c; found = e; complete = p; within = l }
    by None p = let q : is_some c.complete ≡ false = ap is_some p in absurd cc

pub laid_from : (classes : List Class) (n : ℕ) (c v : Bool) → Sized classes (typ (class n) c v) → Laid classes n
laid_from classes n c v h = laid_by classes n (slice_get classes n) refl h.complete h.within

pub class_end : (classes : List Class) → InOrder classes → (n : ℕ) (l : Laid classes n)
    → end_from 0 (items_of (class_extent classes) classes n l.owner) ≤ (class_extent classes n).size
class_end classes o n l =
    let items : List Extent = items_of (class_extent classes) classes n l.owner in
    let w : (class_extent classes n).size ≡ max 1 (next_multiple (end_from 0 items) (greatest_align items)) =
    ap (λ (e : Extent). e.size) (class_whole classes o n l.number l.owner l.found l.complete) in
    let h = next_low (end_from 0 items) (greatest_align items) (greatest_low items) in
    omega arith

pub pointer_aligned : (b : Bool) → Aligned (pointer_items b)
pointer_aligned true = (omega arith, tt)
pointer_aligned false = tt

pub first_end : (classes : List Class) (o : Option ℕ) (b : ℕ) → o ≡ Some b → (class_extent classes b).size ≤ end_from 0 (base_items (class_extent classes) o)
first_end classes None b h = absurd cc
first_end classes (Some x) b h = let e : x ≡ b = cc in
    subst (λ (z : ℕ). (class_extent classes z).size ≤ end_from 0 (class_extent classes x ∷ [])) e (omega arith)

pub base_end : (classes : List Class) (n : ℕ) (c : Class) (b : ℕ) → c.base ≡ Some b
    → (class_extent classes b).size ≤ end_from 0 (items_of (class_extent classes) classes n c)
base_end classes n c b h =
    let base : List Extent = base_items (class_extent classes) c.base in
    let pointer : List Extent = pointer_items (has_class_pointer classes n) in
    let x = first_end classes c.base b h in
    let y = end_append 0 (base ++ pointer) (member_extents classes c.members) in
    let z = end_append 0 base pointer in
    let u = end_low (end_from 0 base) pointer (pointer_aligned (has_class_pointer classes n)) in
    let v = end_low (end_from 0 (base ++ pointer)) (member_extents classes c.members) (extents_aligned classes c.members) in
    omega arith

member_end : (classes : List Class) (s : ℕ) (ms : List Member) (i : ℕ) (m : Member) → slice_get ms i ≡ Some m
    → (member_extent (class_extent classes) m).size ≤ end_from s (member_extents classes ms)
member_end classes s [] i m h = absurd cc
member_end classes s (x ∷ ms) zero m h =
    let e : Extent = member_extent (class_extent classes) x in
    let l = end_low (next_multiple s e.align + e.size) (member_extents classes ms) (extents_aligned classes ms) in
    let q : x ≡ m = cc in
    subst (λ (z : Member). (member_extent (class_extent classes) z).size ≤ end_from s (member_extents classes (x ∷ ms))) q (omega arith)
member_end classes s (x ∷ ms) (suc i) m h = let e : Extent = member_extent (class_extent classes) x in
    member_end classes (next_multiple s e.align + e.size) ms i m h

-- a type has a size where the class that it holds is complete
held_sized : (classes : List Class) (k : ℕ) (t : Typ) → ((e : ℕ) → held t ≡ Some e → CompleteBelow classes k e) → (extent_of classes t).size ≤ 1048576
    → Sized classes t
held_sized classes k (typ f c v) h l = record { complete = by (held_form f) h; within = l }
  where
    by : (o : Option ℕ) → ((e : ℕ) → o ≡ Some e → CompleteBelow classes k e) → each_passes (λ (n : ℕ). is_some (completion_of classes n)) o ≡ true
    by None g = refl
    by (Some e) g = ap is_some (g e refl).complete

extent_is : (classes : List Class) (m : Member) → (member_extent (class_extent classes) m).size ≡ (extent_of classes m.typ).size
extent_is classes m = refl

pub member_sized : (classes : List Class) (o : InOrder classes) (n : ℕ) (l : Laid classes n) (i : ℕ) (m : Member) → slice_get l.owner.members i ≡ Some m
    → Sized classes m.typ
member_sized classes o n l i m h =
    let w = l.within in
    let e = class_end classes o n l in
    let head : List Extent = head_items (class_extent classes) classes n l.owner in
    let a = end_append 0 head (member_extents classes l.owner.members) in
    let b = member_end classes (end_from 0 head) l.owner.members i m h in
    let c = extent_is classes m in
    held_sized classes l.number m.typ ((o.earlier n l.owner l.number l.found l.complete).members i m h) (omega arith)

pub base_sized : (classes : List Class) (o : InOrder classes) (n : ℕ) (l : Laid classes n) (b : ℕ) → l.owner.base ≡ Some b → Sized classes (plain (class b))
base_sized classes o n l b h =
    let w = l.within in
    let e = class_end classes o n l in
    let x = base_end classes n l.owner b h in
    record { complete = ap is_some ((o.earlier n l.owner l.number l.found l.complete).base b h).complete; within = omega arith }

-- Each object takes a byte or more

pub within_low : (classes : List Class) (d n : ℕ) → 1 ≤ (extent_within d classes n).size
within_low classes zero n = omega arith
within_low classes (suc d) n = by (slice_get classes n)
  where
    by : (o : Option Class) → 1 ≤ (record_extent (extent_within d classes) classes n o).size
    by None = omega arith
    by (Some c) = omega arith

size_low : (g : ℕ → Extent) → ((n : ℕ) → 1 ≤ (g n).size) → (p : ℕ → Bool) (r own : Bool) (f : Form) → form_ready p r own f ≡ true → 1 ≤ (form_extent g f).size
size_low g h p r own void q = absurd cc
size_low g h p r own (int k) q = kind_low k
size_low g h p r own (enum n s) q = omega arith
size_low g h p r own null q = omega arith
size_low g h p r own (ptr t) q = omega arith
size_low g h p r own (ref t) q = omega arith
size_low g h p r own (array (typ f c v) n) q =
    let a = and_parts (not own) (nat_lt 0 n && form_ready p r (c || v) f) q in
    let b = and_parts (nat_lt 0 n) (form_ready p r (c || v) f) a.1 in
    let l : 0 < n = ltb-true 0 n b.0 in
    let i = size_low g h p r (c || v) f b.1 in
    let m : 1 * 1 ≤ n * (form_extent g f).size = mul-le 1 1 n (form_extent g f).size (omega arith) i in
    omega arith
size_low g h p r own (func s) q = absurd cc
size_low g h p r own (class n) q = h n
size_low g h p r own (closure n) q = h n
size_low g h p r own (tx_ex (typ f c v)) q = let a = and_parts (is_single f) (form_ready p r false f) q in size_low g h p r false f a.1

pub typ_low : (classes : List Class) (p : ℕ → Bool) (r : Bool) (t : Typ) → typ_ready p r t ≡ true → 1 ≤ (form_extent (class_extent classes) (form_of t)).size
typ_low classes p r (typ f c v) q = size_low (class_extent classes) (λ n. within_low classes (suc (unwrap_or (completion_of classes n) 0)) n) p r (c || v) f q

pub member_low : (classes : List Class) (m : Member) → 1 ≤ (member_extent (class_extent classes) m).align
member_low classes m = (extents_aligned classes (m ∷ [])).0

many_members : (classes : List Class) (n : ℕ) (c : Class) (p : ℕ → Bool) (r : Bool) (i s : ℕ) (ms : List Member)
    → list_all (part_ready p r) (members_from classes n c i ms) ≡ true → s + length ms ≤ end_from s (member_extents classes ms)
many_members classes n c p r i s [] h = omega arith
many_members classes n c p r i s (m ∷ ms) h =
    let e : Extent = member_extent (class_extent classes) m in
    let a = and_parts (typ_ready p r m.typ) (list_all (part_ready p r) (members_from classes n c (suc i) ms)) h in
    let x : 1 ≤ e.size = typ_low classes p r m.typ a.0 in
    let y = many_members classes n c p r (suc i) (next_multiple s e.align + e.size) ms a.1 in
    let z = next_low s e.align (member_low classes m) in
    omega arith

-- Parts, one by one

pub all_right : {A : Type 0} (test : A → Bool) (xs ys : List A) → list_all test (xs ++ ys) ≡ true → list_all test ys ≡ true
all_right test [] ys h = h
all_right test (x ∷ xs) ys h = all_right test xs ys (and_parts (test x) (list_all test (xs ++ ys)) h).1

pub all_at : {A : Type 0} (test : A → Bool) (xs : List A) (i : ℕ) (x : A) → slice_get xs i ≡ Some x → list_all test xs ≡ true → test x ≡ true
all_at test [] i x h a = absurd cc
all_at test (y ∷ xs) zero x h a = let e : y ≡ x = cc in ap test (sym e) ∙ (and_parts (test y) (list_all test xs) a).0
all_at test (y ∷ xs) (suc i) x h a = all_at test xs i x h (and_parts (test y) (list_all test xs) a).1

abbrev pub shown : Part → told.Part
shown p = record { offset = p.offset; typ = p.typ }

pub record IsPart (classes : List Class) (n k i : ℕ) (p : Part) : Type 0 where
  pub is : part_of classes n i ≡ Some (shown p)
  pub sized : Sized classes p.typ
  pub earlier : (e : ℕ) → held p.typ ≡ Some e → CompleteBelow classes k e

record MemberAt (classes : List Class) (n : ℕ) (c : Class) (i : ℕ) (ms : List Member) (k : ℕ) (p : Part) : Type 0 where
  member : Member
  at : slice_get ms k ≡ Some member
  is : p ≡ record { offset = member_offset classes n c (i + k) member; typ = member.typ }

from_members : (classes : List Class) (n : ℕ) (c : Class) (i : ℕ) (ms : List Member) (k : ℕ) (p : Part)
    → slice_get (members_from classes n c i ms) k ≡ Some p → MemberAt classes n c i ms k p
from_members classes n c i [] k p h = absurd cc
from_members classes n c i (m ∷ ms) zero p h =
    let e : i ≡ i + 0 = omega arith in
    let q : p ≡ record { offset = member_offset classes n c i m; typ = m.typ } = cc in
    record { member = m; at = refl; is = q ∙ ap (λ (z : ℕ). let x : Part = record { offset = member_offset classes n c z m; typ = m.typ } in x) e }
from_members classes n c i (m ∷ ms) (suc k) p h =
    let r = from_members classes n c (suc i) ms k p h in
    let e : suc i + k ≡ i + suc k = omega arith in
    record {
      member = r.member;
      at = r.at;
      is = r.is
          ∙ ap (λ (z : ℕ). let x : Part = record { offset = member_offset classes n c z r.member; typ = r.member.typ } in x) e;
    }

length_members : (classes : List Class) (n : ℕ) (c : Class) (i : ℕ) (ms : List Member) → length (members_from classes n c i ms) ≡ length ms
length_members classes n c i [] = refl
length_members classes n c i (m ∷ ms) = ap suc (length_members classes n c (suc i) ms)

pub laid_sized : (classes : List Class) (n : ℕ) (c v : Bool) → Laid classes n → Sized classes (typ (class n) c v)
laid_sized classes n c v l = record {
  complete = ap is_some (ap (option_and_then (λ (x : Class). x.complete)) l.found ∙ l.complete);
  within = l.within;
}

pub sized_class_is : (classes : List Class) (n : ℕ) (l : Laid classes n) → sized_class classes n ≡ Some l.owner
sized_class_is classes n l = ap (λ (o : Option ℕ). cond (is_some o) (slice_get classes n) None)
    (size_is classes (typ (class n) false false) (laid_sized classes n false false l)) ∙ l.found

part_of_is : (classes : List Class) (n : ℕ) (l : Laid classes n) (i : ℕ) → part_of classes n i ≡ part_in classes n i l.owner
part_of_is classes n l i = ap (option_and_then (part_in classes n i)) (sized_class_is classes n l)

member_part_is : (classes : List Class) (n : ℕ) (c : Class) (i : ℕ) (m : Member) → i < 4294967296 → slice_get c.members i ≡ Some m
    → member_part classes n c i ≡ Some (record { offset = member_offset classes n c i m; typ = m.typ })
member_part_is classes n c i m l h = let e : nat_lt i 4294967296 ≡ true = lt-ltb i 4294967296 l in rw (e, h) refl

-- no more members than bytes
pub few_members : (classes : List Class) → InOrder classes → (n : ℕ) (l : Laid classes n) (p : ℕ → Bool) (r : Bool)
    → list_all (part_ready p r) (parts_in classes n (Some l.owner)) ≡ true → length l.owner.members ≤ 1048576
few_members classes o n l p r h =
    let head : List Extent = head_items (class_extent classes) classes n l.owner in
    let a = all_right (part_ready p r) (base_part l.owner.base) (members_from classes n l.owner 0 l.owner.members) h in
    let b = many_members classes n l.owner p r 0 (end_from 0 head) l.owner.members a in
    let e = class_end classes o n l in
    let w = l.within in
    let x = end_append 0 head (member_extents classes l.owner.members) in
    omega arith

module _ (classes : List Class) (o : InOrder classes) (n : ℕ) (l : Laid classes n) (few : length l.owner.members ≤ 1048576) where
  member_is : (i j : ℕ) (p : Part) → slice_get (members_from classes n l.owner 0 l.owner.members) i ≡ Some p
      → part_of classes n j ≡ member_part classes n l.owner i → IsPart classes n l.number j p
  member_is i j p h e =
      let r = from_members classes n l.owner 0 l.owner.members i p h in
      let t : p.typ ≡ r.member.typ = ap (λ (z : Part). z.typ) r.is in
      let w : i < length l.owner.members = slice_get_within l.owner.members i r.member r.at in
      let q : member_part classes n l.owner i ≡ Some (record { offset = member_offset classes n l.owner i r.member; typ = r.member.typ }) =
      member_part_is classes n l.owner i r.member (omega arith) r.at in
      let u : Some (shown p) ≡ Some (record { offset = member_offset classes n l.owner i r.member; typ = r.member.typ }) =
      ap (λ (z : Part). Some (shown z)) r.is
      ∙ ap (λ (z : ℕ). let x : told.Part = record { offset = member_offset classes n l.owner z r.member; typ = r.member.typ } in Some x)
      (let y : 0 + i ≡ i = omega arith in y) in
      record {
        is = e ∙ q ∙ sym u;
        sized = subst (λ (z : Typ). Sized classes z) (sym t) (member_sized classes o n l i r.member r.at);
        earlier = λ x g. (o.earlier n l.owner l.number l.found l.complete).members i r.member r.at x (ap held (sym t) ∙ g);
      }

  base_is : (b : ℕ) (p : Part) → l.owner.base ≡ Some b → p ≡ record { offset = 0; typ = plain (class b) } → IsPart classes n l.number 0 p
  base_is b p h e = subst (λ (z : Part). IsPart classes n l.number 0 z) (sym e) (record {
    is = part_of_is classes n l 0 ∙ ap (λ (z : Option ℕ). part_behind classes n l.owner z 0) h;
    sized = base_sized classes o n l b h;
    earlier = λ x g. (o.earlier n l.owner l.number l.found l.complete).base x (h ∙ g);
  })

  part_by : (b : Option ℕ) → l.owner.base ≡ b → (i : ℕ) (p : Part)
      → slice_get (base_part b ++ members_from classes n l.owner 0 l.owner.members) i ≡ Some p → IsPart classes n l.number i p
  part_by None e i p h = member_is i i p h (part_of_is classes n l i ∙ ap (λ (z : Option ℕ). part_behind classes n l.owner z i) e)
  part_by (Some b) e zero p h = base_is b p e cc
  part_by (Some b) e (suc i) p h = member_is i (suc i) p h
      (part_of_is classes n l (suc i) ∙ ap (λ (z : Option ℕ). part_behind classes n l.owner z (suc i)) e)

  pub part_is : (i : ℕ) (p : Part) → slice_get (parts_in classes n (Some l.owner)) i ≡ Some p → IsPart classes n l.number i p
  part_is i p h = part_by l.owner.base refl i p h

  count_by_base : (b : Option ℕ)
      → length l.owner.members + cond (is_some b) 1 0 ≡ length (base_part b ++ members_from classes n l.owner 0 l.owner.members)
  count_by_base None = let h = length_members classes n l.owner 0 l.owner.members in omega arith
  count_by_base (Some b) = let h = length_members classes n l.owner 0 l.owner.members in omega arith

  pub count_is : length (parts_in classes n (Some l.owner)) ≡ count_of_parts classes n
  count_is = sym (ap (λ (z : Option Class). unwrap_or (option_map told.parts_in z) 0) (sized_class_is classes n l) ∙ count_by_base l.owner.base)
