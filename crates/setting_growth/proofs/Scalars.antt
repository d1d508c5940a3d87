-- The scalars of an exception are as before where classes have grown.
use Rattle.std.proofs.Common.{◌≡◌, refl, sym, ap, ◌∙◌, subst, ℕ, zero, suc, ◌+◌, ◌/◌, ◌<◌, ◌==◌, true, nat_le, List, [], ◌++◌}
use Rattle.std.proofs.Common.{length, Option, Some, None, cond, arith}
use Rattle.std.proofs.lemmas.Bool.{and_parts}
use Rattle.std.proofs.lemmas.Option.{same_Some}
use Rattle.cpp_types.specs.Typ.{Typ, typ, Form, void, int, enum, null, ptr, ref, array, func, class, closure, tx_ex}
use Rattle.cpp_types.specs.Class.{Class, CompleteBelow, held, held_form}
use Rattle.cpp_tree.specs.Typing.{Head, passes, form_in}
use Rattle.cpp_tree.specs.Parts.{Scalar, Part, where_counted, stride_of, element_of, one_element, element_scalars, object_scalars, part_scalars, scalars_from}
use Rattle.cpp_tree.specs.Parts.{scalars_within, scalars_of, part_of, count_of_parts, size_in, are_fields, is_value_form, are_scalars}
use Rattle.setting_growth.specs.Growth.{HeldEarlier, ClassesGrow}
use Rattle.setting_growth.proofs.Still.{Still, same, equal, both, both_if}
use Rattle.setting_growth.proofs.Classes.{Known, known_below, completion_is, AllKnown}
use Rattle.setting_growth.proofs.Sizes.{size_known, sizes_still, stride_same, part_same, count_same, PartBelow, part_below}
use Rattle.setting_growth.proofs.Ranks.{rank, rank_below, rank_within}

-- Elements

element_held : (t : Typ) → held (element_of t) ≡ held t
element_held (typ void c v) = refl
element_held (typ (int k) c v) = refl
element_held (typ (enum n s) c v) = refl
element_held (typ null c v) = refl
element_held (typ (ptr t) c v) = refl
element_held (typ (ref t) c v) = refl
element_held (typ (array t n) c v) = element_held t
element_held (typ (func s) c v) = refl
element_held (typ (class n) c v) = refl
element_held (typ (closure n) c v) = refl
element_held (typ (tx_ex t) c v) = element_held t

-- the scalars of the classes that a type holds are the same
abbrev SameOf : (f h : ℕ → ℕ → List Scalar) → Option ℕ → Type 0
SameOf f h o = (e : ℕ) → o ≡ Some e → (at : ℕ) → f e at ≡ h e at

one_same : (f h : ℕ → ℕ → List Scalar) (x : Form) → SameOf f h (held_form x) → (at : ℕ) → one_element f x at ≡ one_element h x at
one_same f h void s at = refl
one_same f h (int k) s at = refl
one_same f h (enum n x) s at = refl
one_same f h null s at = refl
one_same f h (ptr t) s at = refl
one_same f h (ref t) s at = refl
one_same f h (array t n) s at = refl
one_same f h (func x) s at = refl
one_same f h (class n) s at = s n refl at
one_same f h (closure n) s at = s n refl at
one_same f h (tx_ex t) s at = refl

typ_one_same : (f h : ℕ → ℕ → List Scalar) (t : Typ) → SameOf f h (held t) → (at : ℕ) → one_element f (form_in t) at ≡ one_element h (form_in t) at
typ_one_same f h (typ x c v) s at = one_same f h x s at

elements_same : (f h : ℕ → List Scalar) → ((at : ℕ) → f at ≡ h at) → (stride many at : ℕ) → element_scalars f stride many at ≡ element_scalars h stride many at
elements_same f h s stride zero at = refl
elements_same f h s stride (suc many) at =
    ap (λ (xs : List Scalar). where_counted at (xs ++ element_scalars f stride many (at + stride))) (s at)
    ∙ ap (λ (xs : List Scalar). where_counted at (h at ++ xs)) (elements_same f h s stride many (at + stride))

module _ (old new : List Class) (g : ClassesGrow old new) (o : HeldEarlier old) where
  object_same : (f h : ℕ → ℕ → List Scalar) (t : Typ) → AllKnown old t → SameOf f h (held t) → (at : ℕ)
      → object_scalars new f t at ≡ object_scalars old h t at
  object_same f h t k s at =
      ap (λ (n : ℕ). cond (n == 0) [] (element_scalars (one_element f (form_in (element_of t))) n (stride_of new t / n) at))
      (stride_same old new g o (element_of t) (λ e q. k e (sym (element_held t) ∙ q)))
      ∙ ap (λ (n : ℕ). cond (stride_of old (element_of t) == 0) []
      (element_scalars (one_element f (form_in (element_of t))) (stride_of old (element_of t)) (n / stride_of old (element_of t)) at))
      (stride_same old new g o t k)
      ∙ ap (λ (xs : List Scalar). cond (stride_of old (element_of t) == 0) [] xs)
      (elements_same (one_element f (form_in (element_of t))) (one_element h (form_in (element_of t)))
      (typ_one_same f h (element_of t) (λ e q. s e (sym (element_held t) ∙ q))) (stride_of old (element_of t))
      (stride_of old t / stride_of old (element_of t)) at)

  -- Parts

  one_part_same : (f h : ℕ → ℕ → List Scalar) (k at : ℕ) (x : Option Part) → ((p : Part) → x ≡ Some p → PartBelow old k p)
      → ((e : ℕ) → CompleteBelow old k e → (at : ℕ) → f e at ≡ h e at) → part_scalars new f at x ≡ part_scalars old h at x
  one_part_same f h k at None b s = refl
  one_part_same f h k at (Some p) b s = object_same f h p.typ
      (λ e q. known_below old k e ((b p refl).below e q)) (λ e q. s e ((b p refl).below e q)) (at + p.offset)

  parts_same : (f h : ℕ → ℕ → List Scalar) (n : ℕ) (k : Known old n) → ((e : ℕ) → CompleteBelow old k.number e → (at : ℕ) → f e at ≡ h e at)
      → (at many i : ℕ) → scalars_from new f n at many i ≡ scalars_from old h n at many i
  parts_same f h n k s at zero i = refl
  parts_same f h n k s at (suc many) i =
      ap (λ (x : Option Part). part_scalars new f at x ++ scalars_from new f n at many (suc i)) (part_same old new g o n k i)
      ∙ ap (λ (xs : List Scalar). xs ++ scalars_from new f n at many (suc i))
      (one_part_same f h k.number at (part_of old n i) (λ p e. part_below old new g o n k i p e) s)
      ∙ ap (λ (xs : List Scalar). part_scalars old h at (part_of old n i) ++ xs) (parts_same f h n k s at many (suc i))

  lower : (n : ℕ) (k : Known old n) (e : ℕ) (b : CompleteBelow old k.number e) → rank (known_below old k.number e b).number old < rank k.number old
  lower n k e b =
      let x = known_below old k.number e b in
      let q : x.number ≡ b.number = same_Some x.number b.number (sym (completion_is old e x) ∙ b.complete) in
      rank_below old e x.number k.number x.owner x.found x.complete (subst (λ (z : ℕ). z < k.number) (sym q) b.below)

  -- at each depth that holds all classes
  within_same : (d c n : ℕ) (k : Known old n) (at : ℕ) → rank k.number old < d → rank k.number old < c → scalars_within d new n at ≡ scalars_within c old n at
  within_same zero c n k at l m = absurd (omega arith)
  within_same (suc d) zero n k at l m = absurd (omega arith)
  within_same (suc d) (suc c) n k at l m =
      ap (λ (many : ℕ). scalars_from new (scalars_within d new) n at many 0) (count_same old new g o n k)
      ∙ parts_same (scalars_within d new) (scalars_within c old) n k
      (λ e b a. let x = known_below old k.number e b in let r = lower n k e b in within_same d c e x a (omega arith) (omega arith)) at (count_of_parts old n) 0

  pub scalars_same : (t : Typ) → AllKnown old t → scalars_of new t ≡ scalars_of old t
  scalars_same t k = object_same (scalars_within (length new) new) (scalars_within (length old) old) t k
      (λ e q at. let x = k e q in
      let r = rank_within old e x.number x.owner x.found x.complete in
      let m = g.many in
      within_same (length new) (length old) e x at (omega arith) (omega arith)) 0

  pub are_scalars_still : (t : Typ) (hs : List Head) → Still (are_scalars old t hs) (are_scalars new t hs)
  are_scalars_still t hs = both_if
      (both (same (is_value_form (form_in t))) (sizes_still old new g o t (λ (size : ℕ). nat_le size 64)))
      (λ h. equal (ap (λ (xs : List Scalar). are_fields xs hs) (scalars_same t (sized
      (and_parts (is_value_form (form_in t)) (passes (λ (size : ℕ). nat_le size 64) (size_in old t)) h).1))))
    where
      by : (x : Option ℕ) → size_in old t ≡ x → passes (λ (size : ℕ). nat_le size 64) x ≡ true → AllKnown old t
      by None e h = absurd cc
      by (Some n) e h = size_known old t n e

      sized : passes (λ (size : ℕ). nat_le size 64) (size_in old t) ≡ true → AllKnown old t
      sized h = by (size_in old t) refl h
