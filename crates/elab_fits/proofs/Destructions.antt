-- Destructions are those of an object.
use Rattle.std.proofs.Common.{◌≡◌, refl, sym, ap, ◌∙◌, subst, ℕ, zero, suc, ◌+◌, ◌*◌, ◌-◌, ◌<◌, ◌≤◌, Bool, true, false, not, ◌&&◌, ◌||◌, ◌==◌, nat_le, nat_lt}
use Rattle.std.proofs.Common.{List, [], ◌∷◌, ◌++◌, map, take, drop, length, slice_get, Option, Some, None, unwrap_or, arith, append_assoc, append-nil}
use Rattle.std.proofs.Common.{lt-ltb, ltb-true, le-leb, eq-eqb, mul_assoc}
use Rattle.std.proofs.lemmas.Bool.{and_parts, and_from, or_left, or_right}
use Rattle.std.proofs.lemmas.Nat.{mul-le}
use Rattle.std.proofs.lemmas.Option.{slice_get_within}
use Rattle.std.specs.List.{list_all}
use Rattle.elab_rules.specs.cpp_types.Typ.{Typ, typ, Form, void, int, enum, null, ptr, ref, array, func, class, closure, tx_ex}
use Rattle.elab_rules.specs.cpp_types.Class.{Class, Member, InOrder, completion_of}
use Rattle.elab_rules.specs.cpp_types.declared.classes.At.{At}
use Rattle.elab_rules.specs.cpp_layout.Layout.{Extent, class_extent, base_items, pointer_items, has_class_pointer, head_items, member_extent, end_from}
use Rattle.elab_rules.specs.cpp_layout.Measured.{member_extents, member_offset}
use Rattle.elab_rules.specs.cpp_tree.declared.kinds.TKind.TheVariants.{Destroy}
use Rattle.elab_rules.specs.cpp_tree.declared.roles.Role.TheVariants.{Destruction}
use Rattle.elab_rules.specs.cpp_tree.Trees.{Trees, none, more}
use Rattle.elab_rules.specs.cpp_tree.Typing.{Head, head_of, form_in, qualified, passes, is_class}
use Rattle.elab_rules.specs.cpp_tree.Parts as told
use Rattle.elab_rules.specs.cpp_tree.Parts.{has_size, are_objects, are_whole, size_in, part_of, count_of_parts, are_captured, any_captured, captured_within}
use Rattle.elab_rules.specs.cpp_tree.Parts.{are_captures, are_destroyed}
use Rattle.elab_rules.specs.cpp_tree.Rows.{Setting, is_destructor, is_destruction, destroyed_at, fall_from, offsets_fall}
use Rattle.elab_rules.specs.cpp_tree.WellFormed.{heads_of}
use Rattle.elab_rules.specs.elab_ctx.Ctx.{Ctx, Special, absent, trivial, function}
use Rattle.elab_rules.specs.Objects.{Part, size_of, count_in, element_of, stride_of, members_from, base_part, parts_in, parts_of, traits_at, followed_by}
use Rattle.elab_rules.specs.Objects.{backwards, destroyed, destroys_in, destroys_at, destroys_of, destroys}
use Rattle.elab_rules.proofs.cpp_layout.Ends.{next_low, end_low, end_append}
use Rattle.elab_fits.specs.Standing.{IsSetting}
use Rattle.elab_fits.specs.Objects.{typ_ready, part_ready, class_ready, is_ready, HasSpecials, AllFit, DestroysOne, is_closure, has_lambdas}
use Rattle.elab_fits.specs.Objects.{DestructionsFit}
use Rattle.elab_fits.proofs.Objects.{Sized, sized_from, size_is, qualified_size, element_sized, laid_from, few_members, IsPart, part_is, count_is, shown}
use Rattle.elab_fits.proofs.Objects.{all_right, all_at, typ_low, member_low, first_end, pointer_aligned, within_low}

-- Elements of arrays of arrays

class_form : (c v : Bool) (t : Typ) (n : ℕ) → form_in (qualified c v t) ≡ class n → form_in t ≡ class n
class_form c v (typ void d w) n h = h
class_form c v (typ (int k) d w) n h = h
class_form c v (typ (enum m s) d w) n h = h
class_form c v (typ null d w) n h = h
class_form c v (typ (ptr t) d w) n h = h
class_form c v (typ (ref t) d w) n h = h
class_form c v (typ (array t m) d w) n h = absurd cc
class_form c v (typ (func s) d w) n h = h
class_form c v (typ (class m) d w) n h = h
class_form c v (typ (closure m) d w) n h = h
class_form c v (typ (tx_ex t) d w) n h = h

pub count_low : (p : ℕ → Bool) (r : Bool) (t : Typ) → typ_ready p r t ≡ true → 1 ≤ count_in t
count_low p r (typ void c v) h = omega arith
count_low p r (typ (int k) c v) h = omega arith
count_low p r (typ (enum m s) c v) h = omega arith
count_low p r (typ null c v) h = omega arith
count_low p r (typ (ptr t) c v) h = omega arith
count_low p r (typ (ref t) c v) h = omega arith
count_low p r (typ (array t n) c v) h =
    let a = and_parts (not (c || v)) (nat_lt 0 n && typ_ready p r t) h in
    let b = and_parts (nat_lt 0 n) (typ_ready p r t) a.1 in
    let l : 0 < n = ltb-true 0 n b.0 in
    let i = count_low p r t b.1 in
    let m : 1 * 1 ≤ n * count_in t = mul-le 1 1 n (count_in t) (omega arith) i in
    omega arith
count_low p r (typ (func s) c v) h = omega arith
count_low p r (typ (class m) c v) h = omega arith
count_low p r (typ (closure m) c v) h = omega arith
count_low p r (typ (tx_ex t) c v) h = omega arith

no_class : (f : Form) (n : ℕ) → f ≡ class n → is_class n f ≡ true
no_class f n h = subst (λ (g : Form). is_class n g ≡ true) (sym h) (eq-eqb n n refl)

module _ (classes : List Class) (n : ℕ) (p : ℕ → Bool) (r : Bool) where
  objects_are : (count stride before m : ℕ) (t : Typ) (c v : Bool) → 1 ≤ m → typ_ready p r t ≡ true → Sized classes t → form_in (element_of t) ≡ class n
      → count ≡ before * (m * count_in t) → stride ≡ size_of classes (element_of t) → are_objects classes n count stride before (typ (array t m) c v) ≡ true
  objects_are count stride before m (typ void a b) c v l q z f e g = absurd cc
  objects_are count stride before m (typ (int k) a b) c v l q z f e g = absurd cc
  objects_are count stride before m (typ (enum k s) a b) c v l q z f e g = absurd cc
  objects_are count stride before m (typ null a b) c v l q z f e g = absurd cc
  objects_are count stride before m (typ (ptr t) a b) c v l q z f e g = absurd cc
  objects_are count stride before m (typ (ref t) a b) c v l q z f e g = absurd cc
  objects_are count stride before m (typ (array u j) a b) c v l q z f e g =
      let x = and_parts (not (a || b)) (nat_lt 0 j && typ_ready p r u) q in
      let y = and_parts (nat_lt 0 j) (typ_ready p r u) x.1 in
      let w : 0 < j = ltb-true 0 j y.0 in
      let i = count_low p r (typ (array u j) a b) q in
      let mul : (before * m) * 1 ≤ (before * m) * (j * count_in u) = mul-le (before * m) 1 (before * m) (j * count_in u) (omega arith) i in
      let total : count ≡ (before * m) * (j * count_in u) = e ∙ sym (mul_assoc before m (j * count_in u)) in
      let le : nat_le (before * m) count ≡ true = le-leb (before * m) count (omega arith) in
      let o = objects_are count stride (before * m) j u a b (omega arith) y.1 (element_sized classes u j a b (omega arith) z)
      (class_form a b (element_of u) n f) total (g ∙ qualified_size classes a b (element_of u)) in
      and_from (nat_le (before * m) count) _ le (or_right _ (are_objects classes n count stride (before * m) (typ (array u j) a b)) o)
  objects_are count stride before m (typ (func s) a b) c v l q z f e g = absurd cc
  objects_are count stride before m (typ (class k) a b) c v l q z f e g =
      let one : m * 1 ≡ m = omega arith in
      let total : before * m ≡ count = sym (e ∙ ap (λ (x : ℕ). before * x) one) in
      let le : nat_le (before * m) count ≡ true = le-leb (before * m) count (omega arith) in
      let eq : (before * m == count) ≡ true = eq-eqb (before * m) count total in
      let i : is_class n (class k) ≡ true = no_class (class k) n f in
      let s : has_size classes (typ (class k) a b) stride ≡ true = ap (passes (λ (size : ℕ). size == stride)) (size_is classes (typ (class k) a b) z)
      ∙ eq-eqb (size_of classes (typ (class k) a b)) stride (sym g) in
      rw (le, eq, i, s) refl
  objects_are count stride before m (typ (closure k) a b) c v l q z f e g = absurd cc
  objects_are count stride before m (typ (tx_ex t) a b) c v l q z f e g = absurd cc

  pub whole_is : (t : Typ) → typ_ready p r t ≡ true → Sized classes t → form_in (element_of t) ≡ class n
      → are_whole classes (record { class = n; count = count_in t; stride = stride_of classes t }) 0 t ≡ true
  whole_is (typ void c v) q z f = absurd cc
  whole_is (typ (int k) c v) q z f = absurd cc
  whole_is (typ (enum k s) c v) q z f = absurd cc
  whole_is (typ null c v) q z f = absurd cc
  whole_is (typ (ptr t) c v) q z f = absurd cc
  whole_is (typ (ref t) c v) q z f = absurd cc
  whole_is (typ (array t m) c v) q z f =
      let x = and_parts (not (c || v)) (nat_lt 0 m && typ_ready p r t) q in
      let y = and_parts (nat_lt 0 m) (typ_ready p r t) x.1 in
      let w : 0 < m = ltb-true 0 m y.0 in
      let i = count_low p r (typ (array t m) c v) q in
      let a : nat_lt 0 (m * count_in t) ≡ true = lt-ltb 0 (m * count_in t) (omega arith) in
      let e : m * count_in t ≡ 1 * (m * count_in t) = omega arith in
      let o = objects_are (m * count_in t) (size_of classes (element_of (typ (array t m) c v))) 1 m t c v (omega arith) y.1
      (element_sized classes t m c v (omega arith) z) (class_form c v (element_of t) n f) e (qualified_size classes c v (element_of t)) in
      rw (a, o) refl
  whole_is (typ (func s) c v) q z f = absurd cc
  whole_is (typ (class k) c v) q z f = let i : is_class n (class k) ≡ true = no_class (class k) n f in rw i refl
  whole_is (typ (closure k) c v) q z f = absurd cc
  whole_is (typ (tx_ex t) c v) q z f = absurd cc

-- Captures

any_at : (classes : List Class) (within : ℕ → ℕ → Bool) (o : told.Objects) (n offset many i j : ℕ) → j < many
    → passes (are_captured classes within o offset) (part_of classes n (i + j)) ≡ true → any_captured classes within o n offset many i ≡ true
any_at classes within o n offset zero i j l h = absurd (omega arith)
any_at classes within o n offset (suc many) i zero l h =
    let z : i + 0 ≡ i = omega arith in
    let f : passes (are_captured classes within o offset) (part_of classes n i) ≡ true =
    subst (λ (x : ℕ). passes (are_captured classes within o offset) (part_of classes n x) ≡ true) z h in
    rw f refl
any_at classes within o n offset (suc many) i (suc j) l h =
    let z : i + suc j ≡ suc i + j = omega arith in
    or_right (passes (are_captured classes within o offset) (part_of classes n i)) (any_captured classes within o n offset many (suc i))
    (any_at classes within o n offset many (suc i) j (omega arith)
    (subst (λ (x : ℕ). passes (are_captured classes within o offset) (part_of classes n x) ≡ true) z h))

captured_here : (classes : List Class) (within : ℕ → ℕ → Bool) (o : told.Objects) (q : Part) → are_whole classes o 0 q.typ ≡ true
    → are_captured classes within o q.offset (shown q) ≡ true
captured_here classes within o q h =
    let l : nat_le q.offset q.offset ≡ true = le-leb q.offset q.offset (omega arith) in
    let e : q.offset - q.offset ≡ 0 = omega arith in
    rw (l, e, h) refl

pub captured_is : (classes : List Class) (o : told.Objects) (n k j : ℕ) (q : Part) (c v : Bool) → IsPart classes n k j q → j < count_of_parts classes n
    → are_whole classes o 0 q.typ ≡ true → are_destroyed classes o q.offset (typ (closure n) c v) ≡ true
captured_is classes o n k j q c v h l w =
    let within : ℕ → ℕ → Bool = captured_within (unwrap_or (completion_of classes n) 0) classes o in
    let z : j ≡ 0 + j = omega arith in
    let e : part_of classes n (0 + j) ≡ Some (shown q) = subst (λ (x : ℕ). part_of classes n x ≡ Some (shown q)) z h.is in
    or_right (are_whole classes o q.offset (typ (closure n) c v)) (are_captures classes o q.offset (typ (closure n) c v))
    (any_at classes within o n q.offset (count_of_parts classes n) 0 j l
    (ap (passes (are_captured classes within o q.offset)) e ∙ captured_here classes within o q w))

-- Offsets of parts rise

abbrev Rising : ℕ → List Part → Type 0
Rising low [] = Unit {0}
Rising low (q ∷ qs) = (low ≤ q.offset) × Rising (suc q.offset) qs

abbrev top : ℕ → List Part → ℕ
top low [] = low
top low (q ∷ qs) = top (suc q.offset) qs

take_more : {A : Type 0} (xs : List A) (i : ℕ) (x : A) (rest : List A) → drop i xs ≡ x ∷ rest → take (suc i) xs ≡ take i xs ++ x ∷ []
take_more [] zero x rest h = absurd cc
take_more [] (suc i) x rest h = absurd cc
take_more (y ∷ ys) zero x rest h = let e : y ≡ x = cc in ap (λ z. z ∷ []) e
take_more (y ∷ ys) (suc i) x rest h = ap (λ zs. y ∷ zs) (take_more ys i x rest h)

drop_more : {A : Type 0} (xs : List A) (i : ℕ) (x : A) (rest : List A) → drop i xs ≡ x ∷ rest → drop (suc i) xs ≡ rest
drop_more [] zero x rest h = absurd cc
drop_more [] (suc i) x rest h = absurd cc
drop_more (y ∷ ys) zero x rest h = cc
drop_more (y ∷ ys) (suc i) x rest h = drop_more ys i x rest h

map_append : {A B : Type 0} (f : A → B) (xs ys : List A) → map f (xs ++ ys) ≡ map f xs ++ map f ys
map_append f [] ys = refl
map_append f (x ∷ xs) ys = ap (λ zs. f x ∷ zs) (map_append f xs ys)

-- where the member of this index begins to be placed
abbrev begin_at : List Class → ℕ → Class → ℕ → ℕ
begin_at classes n c i = end_from 0 (head_items (class_extent classes) classes n c ++ member_extents classes (take i c.members))

begin_next : (classes : List Class) (n : ℕ) (c : Class) (i : ℕ) (m : Member) (ms : List Member) → drop i c.members ≡ m ∷ ms
    → begin_at classes n c (suc i) ≡ member_offset classes n c i m + (member_extent (class_extent classes) m).size
begin_next classes n c i m ms h =
    let head : List Extent = head_items (class_extent classes) classes n c in
    let more : member_extents classes (take (suc i) c.members) ≡ member_extents classes (take i c.members) ++ member_extent (class_extent classes) m ∷ [] =
    ap (member_extents classes) (take_more c.members i m ms h) ∙ map_append (member_extent (class_extent classes)) (take i c.members) (m ∷ []) in
    ap (λ z. end_from 0 (head ++ z)) more ∙ ap (end_from 0)
    (sym (append_assoc head (member_extents classes (take i c.members)) (member_extent (class_extent classes) m ∷ [])))
    ∙ end_append 0 (head ++ member_extents classes (take i c.members)) (member_extent (class_extent classes) m ∷ [])

members_rise : (classes : List Class) (n : ℕ) (c : Class) (p : ℕ → Bool) (r : Bool) (low i : ℕ) (ms : List Member) → drop i c.members ≡ ms
    → low ≤ begin_at classes n c i → list_all (part_ready p r) (members_from classes n c i ms) ≡ true → Rising low (members_from classes n c i ms)
members_rise classes n c p r low i [] d l h = tt
members_rise classes n c p r low i (m ∷ ms) d l h =
    let a = and_parts (typ_ready p r m.typ) (list_all (part_ready p r) (members_from classes n c (suc i) ms)) h in
    let x : 1 ≤ (member_extent (class_extent classes) m).size = typ_low classes p r m.typ a.0 in
    let y : begin_at classes n c i ≤ member_offset classes n c i m =
    next_low (begin_at classes n c i) (member_extent (class_extent classes) m).align (member_low classes m) in
    let z = begin_next classes n c i m ms d in (
      (let w : low ≤ member_offset classes n c i m = omega arith in w),
      members_rise classes n c p r (suc (member_offset classes n c i m)) (suc i) ms (drop_more c.members i m ms d) (omega arith) a.1,
    )

head_low : (classes : List Class) (n : ℕ) (c : Class) (b : ℕ) → c.base ≡ Some b → 1 ≤ begin_at classes n c 0
head_low classes n c b h =
    let base : List Extent = base_items (class_extent classes) c.base in
    let pointer : List Extent = pointer_items (has_class_pointer classes n) in
    let x = first_end classes c.base b h in
    let o : 1 ≤ (class_extent classes b).size = within_low classes (suc (unwrap_or (completion_of classes b) 0)) b in
    let y : begin_at classes n c 0 ≡ end_from 0 (base ++ pointer) = ap (end_from 0) (append-nil (base ++ pointer)) in
    let z = end_append 0 base pointer in
    let u = end_low (end_from 0 base) pointer (pointer_aligned (has_class_pointer classes n)) in
    omega arith

rise_by : (classes : List Class) (n : ℕ) (c : Class) (p : ℕ → Bool) (r : Bool) (b : Option ℕ) → c.base ≡ b
    → list_all (part_ready p r) (base_part b ++ members_from classes n c 0 c.members) ≡ true → Rising 0 (base_part b ++ members_from classes n c 0 c.members)
rise_by classes n c p r None e h = members_rise classes n c p r 0 0 c.members refl (omega arith) h
rise_by classes n c p r (Some b) e h = (
  (let w : 0 ≤ 0 = omega arith in w),
  members_rise classes n c p r 1 0 c.members refl (head_low classes n c b e)
      (all_right (part_ready p r) (base_part (Some b)) (members_from classes n c 0 c.members) h),
)

-- Destructions one behind the other

-- no tree, or one that destroys what lies at this offset
abbrev IsOneAt : ℕ → Trees → Type 0
IsOneAt o none = Unit {0}
IsOneAt o (more e none) = destroyed_at (head_of e).kind ≡ o
IsOneAt o (more e (more f es)) = ⊥

abbrev FallsFrom : ℕ → Trees → Type 0
FallsFrom low us = (m : ℕ) → low ≤ m → fall_from m (heads_of us) ≡ true

one_falls : (o low : ℕ) (es us : Trees) → low ≤ o → IsOneAt o es → FallsFrom low us → FallsFrom (suc o) (followed_by es us)
one_falls o low none us l i h = λ m k. h m (omega arith)
one_falls o low (more e none) us l i h = λ m k. and_from (nat_lt (destroyed_at (head_of e).kind) m) (fall_from (destroyed_at (head_of e).kind) (heads_of us))
    (lt-ltb (destroyed_at (head_of e).kind) m (omega arith)) (h (destroyed_at (head_of e).kind) (omega arith))
one_falls o low (more e (more f es)) us l i h = absurd i

followed_assoc : (a b d : Trees) → followed_by (followed_by a b) d ≡ followed_by a (followed_by b d)
followed_assoc none b d = refl
followed_assoc (more t ts) b d = ap (more t) (followed_assoc ts b d)

followed_none : (a : Trees) → followed_by a none ≡ a
followed_none none = refl
followed_none (more t ts) = ap (more t) (followed_none ts)

backwards_fall : (each : Part → Trees) (qs : List Part) (low : ℕ) (us : Trees) → Rising low qs
    → ((j : ℕ) (q : Part) → slice_get qs j ≡ Some q → IsOneAt q.offset (each q)) → FallsFrom low us
    → FallsFrom (top low qs) (followed_by (backwards each qs) us)
backwards_fall each [] low us r i h = h
backwards_fall each (q ∷ qs) low us r i h = subst (λ (x : Trees). FallsFrom (top (suc q.offset) qs) x) (sym (followed_assoc (backwards each qs) (each q) us))
    (backwards_fall each qs (suc q.offset) (followed_by (each q) us) r.1 (λ j x g. i (suc j) x g) (one_falls q.offset low (each q) us r.0 (i 0 q refl) h))

falls_of : (m : ℕ) (hs : List Head) → fall_from m hs ≡ true → offsets_fall hs ≡ true
falls_of m [] h = refl
falls_of m (x ∷ hs) h = (and_parts (nat_lt (destroyed_at x.kind) m) (fall_from (destroyed_at x.kind) hs) h).1

one_offset : (o : ℕ) (us : Trees) → IsOneAt o us → offsets_fall (heads_of us) ≡ true
one_offset o none h = refl
one_offset o (more e none) h = refl
one_offset o (more e (more f es)) h = absurd h

all_followed : (test : Head → Bool) (a b : Trees) → list_all test (heads_of a) ≡ true → list_all test (heads_of b) ≡ true
    → list_all test (heads_of (followed_by a b)) ≡ true
all_followed test none b h g = g
all_followed test (more t ts) b h g = let p = and_parts (test (head_of t)) (list_all test (heads_of ts)) h in
    and_from (test (head_of t)) (list_all test (heads_of (followed_by ts b))) p.0 (all_followed test ts b p.1 g)

all_backwards : (test : Head → Bool) (each : Part → Trees) (qs : List Part)
    → ((j : ℕ) (q : Part) → slice_get qs j ≡ Some q → list_all test (heads_of (each q)) ≡ true) → list_all test (heads_of (backwards each qs)) ≡ true
all_backwards test each [] h = refl
all_backwards test each (q ∷ qs) h = all_followed test (backwards each qs) (each q) (all_backwards test each qs (λ j x g. h (suc j) x g)) (h 0 q refl)

fit_followed : (s : Setting) (a b : Trees) → AllFit s Destruction a → AllFit s Destruction b → AllFit s Destruction (followed_by a b)
fit_followed s none b h g = g
fit_followed s (more t ts) b h g = (h.0, fit_followed s ts b h.1 g)

fit_backwards : (s : Setting) (each : Part → Trees) (qs : List Part) → ((j : ℕ) (q : Part) → slice_get qs j ≡ Some q → AllFit s Destruction (each q))
    → AllFit s Destruction (backwards each qs)
fit_backwards s each [] h = tt
fit_backwards s each (q ∷ qs) h = fit_followed s (backwards each qs) (each q) (fit_backwards s each qs (λ j x g. h (suc j) x g)) (h 0 q refl)

-- The law

record IsGood (s : Setting) (t : Typ) (o : ℕ) (us : Trees) : Type 0 where
  all : list_all (λ (h : Head). is_destruction s t h.kind) (heads_of us) ≡ true
  one : IsOneAt o us
  fit : AllFit s Destruction us

none_good : (s : Setting) (t : Typ) (o : ℕ) → IsGood s t o none
none_good s t o = record { all = refl; one = tt; fit = tt }

module _ (s : Setting) (c : Ctx) (at : At) (i : IsSetting s c) (h : HasSpecials c) where
  destruction_is : (t : Typ) (o count stride m k : ℕ) → (traits_at c m).destructor ≡ function k
      → are_destroyed c.classes (record { class = m; count = count; stride = stride }) o t ≡ true → is_destruction s t (Destroy k o count stride) ≡ true
  destruction_is t o count stride m k e d =
      let f = h.destructors m k e in
      let g = i.funcs k f.func f.at in
      let found = g.at in
      let kind : is_destructor g.func.kind ≡ true = ap is_destructor (g.is.kind ∙ f.kind) in
      let class : g.func.class ≡ Some m = g.is.class ∙ f.class in
      let q = i.classes in
      rw (found, kind, class, q) d

  destroyed_good : (t : Typ) (o count stride m : ℕ) → are_destroyed c.classes (record { class = m; count = count; stride = stride }) o t ≡ true
      → (x : Special) → (traits_at c m).destructor ≡ x → IsGood s t o (destroyed x o count stride at)
  destroyed_good t o count stride m d absent e = none_good s t o
  destroyed_good t o count stride m d trivial e = none_good s t o
  destroyed_good t o count stride m d (function k) e = record {
    all = let x = destruction_is t o count stride m k e d in rw x refl;
    one = refl;
    fit = ((λ p full. refl), tt);
  }

  in_good : (t u : Typ) (o : ℕ) (f : Form)
      → ((m : ℕ) → f ≡ class m → are_destroyed c.classes (record { class = m; count = count_in u; stride = stride_of c.classes u }) o t ≡ true)
      → IsGood s t o (destroys_in c o at u f)
  in_good t u o void d = none_good s t o
  in_good t u o (int k) d = none_good s t o
  in_good t u o (enum n w) d = none_good s t o
  in_good t u o null d = none_good s t o
  in_good t u o (ptr x) d = none_good s t o
  in_good t u o (ref x) d = none_good s t o
  in_good t u o (array x n) d = none_good s t o
  in_good t u o (func g) d = none_good s t o
  in_good t u o (class n) d = destroyed_good t o (count_in u) (stride_of c.classes u) n (d n refl) (traits_at c n).destructor refl
  in_good t u o (closure n) d = none_good s t o
  in_good t u o (tx_ex x) d = none_good s t o

  from_good : (t : Typ) (o : ℕ) (us : Trees) → IsGood s t o us → DestroysOne s t us
  from_good t o us g = record {
    fit = g.fit;
    right = and_from (list_all (λ (x : Head). is_destruction s t x.kind) (heads_of us)) (offsets_fall (heads_of us)) g.all (one_offset o us g.one);
  }

  plain_destroys : (p : ℕ → Bool) (r : Bool) (t : Typ) → typ_ready p r t ≡ true → Sized c.classes t
      → DestroysOne s t (destroys_in c 0 at t (form_in (element_of t)))
  plain_destroys p r t q z = from_good t 0 (destroys_in c 0 at t (form_in (element_of t))) (in_good t t 0 (form_in (element_of t))
      (λ m e. let w = whole_is c.classes m p r t q z e in
      or_left (are_whole c.classes (record { class = m; count = count_in t; stride = stride_of c.classes t }) 0 t) _ w))

  lambda_destroys : (p : ℕ → Bool) (r : Bool) (n : ℕ) (a v : Bool) → list_all (part_ready p r) (parts_of c.classes n) ≡ true
      → Sized c.classes (typ (class n) a v) → InOrder c.classes → DestroysOne s (typ (closure n) a v) (backwards (destroys_at c at) (parts_of c.classes n))
  lambda_destroys p r n a v q z o =
      let t : Typ = typ (closure n) a v in
      let l = laid_from c.classes n a v z in
      let qs : List Part = parts_of c.classes n in
      let e : qs ≡ parts_in c.classes n (Some l.owner) = ap (parts_in c.classes n) l.found in
      let y : list_all (part_ready p r) (parts_in c.classes n (Some l.owner)) ≡ true = ap (list_all (part_ready p r)) (sym e) ∙ q in
      let few = few_members c.classes o n l p r y in
      let part : (j : ℕ) (x : Part) → slice_get qs j ≡ Some x → IsPart c.classes n l.number j x =
      λ j x g. part_is c.classes o n l few j x (ap (λ (z : List Part). slice_get z j) (sym e) ∙ g) in
      let good : (j : ℕ) (x : Part) → slice_get qs j ≡ Some x → IsGood s t x.offset (destroys_at c at x) =
      λ j x g. in_good t x.typ x.offset (form_in (element_of x.typ)) (λ m f.
      let w = whole_is c.classes m p r x.typ (all_at (part_ready p r) qs j x g q) (part j x g).sized f in
      let k : j < length qs = slice_get_within qs j x g in
      let b : length qs ≡ count_of_parts c.classes n = ap length e ∙ count_is c.classes o n l few in
      captured_is c.classes (record { class = m; count = count_in x.typ; stride = stride_of c.classes x.typ }) n l.number j x a v (part j x g) (omega arith)
      w) in
      let up : Rising 0 qs = subst (λ (z : List Part). Rising 0 z) (sym e) (rise_by c.classes n l.owner p r l.owner.base refl y) in
      let fall : fall_from (top 0 qs) (heads_of (followed_by (backwards (destroys_at c at) qs) none)) ≡ true =
      backwards_fall (destroys_at c at) qs 0 none up (λ j x g. (good j x g).one) (λ m k. refl) (top 0 qs) (omega arith) in
      let all_fall : fall_from (top 0 qs) (heads_of (backwards (destroys_at c at) qs)) ≡ true =
      subst (λ (z : Trees). fall_from (top 0 qs) (heads_of z) ≡ true) (followed_none (backwards (destroys_at c at) qs)) fall in
      record {
        fit = fit_backwards s (destroys_at c at) qs (λ j x g. (good j x g).fit);
        right = and_from (list_all (λ (x : Head). is_destruction s t x.kind) (heads_of (backwards (destroys_at c at) qs)))
            (offsets_fall (heads_of (backwards (destroys_at c at) qs)))
            (all_backwards (λ (x : Head). is_destruction s t x.kind) (destroys_at c at) qs (λ j x g. (good j x g).all))
            (falls_of (top 0 qs) (heads_of (backwards (destroys_at c at) qs)) all_fall);
      }

  not_closure : (t : Typ) (f : Form) → is_closure f ≡ false → destroys_in c 0 at t f ≡ destroys_of c at t f
  not_closure t void e = refl
  not_closure t (int k) e = refl
  not_closure t (enum n w) e = refl
  not_closure t null e = refl
  not_closure t (ptr x) e = refl
  not_closure t (ref x) e = refl
  not_closure t (array x n) e = refl
  not_closure t (func g) e = refl
  not_closure t (class n) e = refl
  not_closure t (closure n) e = absurd cc
  not_closure t (tx_ex x) e = refl

  plain_by : (p : ℕ → Bool) (r : Bool) (t : Typ) → is_closure (form_in (element_of t)) ≡ false → typ_ready p r t ≡ true → Sized c.classes t
      → DestroysOne s t (destroys c at t)
  plain_by p r t e q z = subst (λ (x : Trees). DestroysOne s t x) (not_closure t (form_in (element_of t)) e) (plain_destroys p r t q z)

  closure_by : (depth : ℕ) (n : ℕ) (a v : Bool) → depth ≡ length c.classes → class_ready depth c.classes true n ≡ true → Sized c.classes (typ (class n) a v)
      → InOrder c.classes → DestroysOne s (typ (closure n) a v) (backwards (destroys_at c at) (parts_of c.classes n))
  closure_by zero n a v e q z o = let l = laid_from c.classes n a v z in let w = slice_get_within c.classes n l.owner l.found in absurd (omega arith)
  closure_by (suc depth) n a v e q z o = lambda_destroys (class_ready depth c.classes true) true n a v q z o

  destroys_by : (t : Typ) → InOrder c.classes → is_ready c.classes true t ≡ true → Sized c.classes t → has_lambdas t ≡ false
      → DestroysOne s t (destroys c at t)
  destroys_by (typ void a v) o q z k = absurd cc
  destroys_by (typ (int x) a v) o q z k = plain_by (class_ready (length c.classes) c.classes true) true (typ (int x) a v) refl q z
  destroys_by (typ (enum n w) a v) o q z k = plain_by (class_ready (length c.classes) c.classes true) true (typ (enum n w) a v) refl q z
  destroys_by (typ null a v) o q z k = plain_by (class_ready (length c.classes) c.classes true) true (typ null a v) refl q z
  destroys_by (typ (ptr x) a v) o q z k = plain_by (class_ready (length c.classes) c.classes true) true (typ (ptr x) a v) refl q z
  destroys_by (typ (ref x) a v) o q z k = plain_by (class_ready (length c.classes) c.classes true) true (typ (ref x) a v) refl q z
  destroys_by (typ (array x n) a v) o q z k = plain_by (class_ready (length c.classes) c.classes true) true (typ (array x n) a v) k q z
  destroys_by (typ (func g) a v) o q z k = absurd cc
  destroys_by (typ (class n) a v) o q z k = plain_by (class_ready (length c.classes) c.classes true) true (typ (class n) a v) refl q z
  destroys_by (typ (closure n) a v) o q z k = closure_by (length c.classes) n a v refl q (record { complete = z.complete; within = z.within }) o
  destroys_by (typ (tx_ex x) a v) o q z k = plain_by (class_ready (length c.classes) c.classes true) true (typ (tx_ex x) a v) refl q z

pub destructions_law : DestructionsFit
destructions_law s c at t i h z r k = destroys_by s c at i h t i.ordered r (sized_from c.classes t z) k
