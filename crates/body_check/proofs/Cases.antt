-- Each type is in a case, and in a case all tests of handlers and rows are decided.
use Rattle.std.proofs.Common.{ℕ, zero, suc, ◌≡◌, ◌≢◌, ◌<◌, ◌==◌, cond, Bool, true, false, not, ◌&&◌, ◌||◌, ◌++◌, if◌then◌else◌, refl, ap, ap₂, sym, ◌∙◌, subst}
use Rattle.std.proofs.Common.{List, [], ◌∷◌, Option, Some, None, arith}
use Rattle.std.specs.Prelude.{slice_get, length, map, unwrap_or, nat_eq}
use Rattle.std.specs.List.{list_any}
use Rattle.std.specs.Option.{option_and_then}
use Rattle.std.proofs.lemmas.Bool.{true≢false, and_parts, eqb-true, eq-eqb}
use Rattle.tx_code.specs.declared.body.Row.{Row}
use Rattle.tx_code.specs.Meaning.{covers, find}
use Rattle.cpp_tree.specs.cpp_types.Typ.{Typ, typ, Form, void, ref, class}
use Rattle.cpp_tree.specs.cpp_types.Class.{Class}
use Rattle.cpp_tree.specs.cpp_types.Conversion.{bases, chain}
use Rattle.cpp_tree.specs.cpp_types.Equal.{name_eq}
use Rattle.cpp_tree.specs.Trees.{Tree, typ_in}
use Rattle.src_mean.specs.Exceptions.{caught_as, catches, form_in}
use Rattle.src_mean.specs.Linked.{Func, Program}
use Rattle.symbolic_source.specs.Terms.{Exception, unknown}
use Rattle.symbolic_source.specs.Outcomes.{Outcome}
use Rattle.symbolic_code.specs.Facts.{Fact}
use Rattle.symbolic_code.specs.Places.{Place}
use Rattle.body_check.specs.Notes.{Note, Bounds, IsOf, FoundFits, TypeFits}
use Rattle.body_check.specs.Cases.{Case, of_class, of_spelling, of_others, spelled, is_known, Falls, class_cases, spelling_cases, cases, handler_spelling}
use Rattle.body_check.specs.Cases.{caught_by, answer_in, answers_in, is_that, find_in, AreSpelled, Each}

name_same : (s t : List ℕ) → name_eq s t ≡ true → s ≡ t
name_same [] [] h = refl
name_same [] (b ∷ t) h = absurd (true≢false (sym h))
name_same (a ∷ s) [] h = absurd (true≢false (sym h))
name_same (a ∷ s) (b ∷ t) h =
    let g = and_parts (a == b) (name_eq s t) h in
    ap₂ (λ (x : ℕ) (y : List ℕ). x ∷ y) (eqb-true a b g.0) (name_same s t g.1)

module _ (classes : List Class) (known : List (List ℕ)) where
  abbrev In : Case → Typ → Type 0
  In c t = Falls classes known c t

  -- Each type is in a case

  none_of_class : (n : ℕ) → slice_get classes n ≡ None → bases classes n ≡ []
  none_of_class n e = ap (λ (z : Option ℕ). chain (unwrap_or z 0) classes n) (ap (λ (z : Option Class). option_and_then (λ (c : Class). c.complete) z) e)

  abbrev Found : (Case → Type 0) → Typ → Type 0
  Found P t = (c : Case) × In c t × P c

  among_classes : (P : Case → Type 0) (n most : ℕ) (others : List Case) → n < most → Each P (class_cases classes known most ++ others) → P (of_class n)
  among_classes P n zero others h e = absurd (below_none n h)
    where
      below_none : (n : ℕ) → n < 0 → ⊥
      below_none n h = omega (arith, h)
  among_classes P n (suc most) others h e = by_test (n == most) refl (λ i. among_classes P n most others i e.1)
    where
      lower : (n most : ℕ) → n < suc most → n ≢ most → n < most
      lower n most h g = omega (arith, h, g)

      by_test : (b : Bool) → (n == most) ≡ b → (n < most → P (of_class n)) → P (of_class n)
      by_test true g go = subst (λ z. P (of_class z)) (sym (eqb-true n most g)) e.0
      by_test false g go = go (lower n most h (λ e. true≢false (sym (eq-eqb n most e) ∙ g)))

  behind_classes : (P : Case → Type 0) (most : ℕ) (others : List Case) → Each P (class_cases classes known most ++ others) → Each P others
  behind_classes P zero others e = e
  behind_classes P (suc most) others e = behind_classes P most others e.1

  by_spelling : (P : Case → Type 0) (s : List ℕ) (names : List (List ℕ)) (t : Typ) → caught_as classes (form_in t) ≡ s ∷ []
      → (list_any (name_eq s) names ≡ false → is_known known s ≡ false) → Each P (spelling_cases classes known names) → Found P t
  by_spelling P s [] t is h e = (of_others, (s, is, h refl), e.0)
  by_spelling P s (u ∷ us) t is h e = by_test (name_eq s u) refl (λ i. by_spelling P s us t is i e.1)
    where
      by_test : (b : Bool) → name_eq s u ≡ b → ((list_any (name_eq s) us ≡ false → is_known known s ≡ false) → Found P t) → Found P t
      by_test true g go = (of_spelling u, is ∙ ap (λ (z : List ℕ). z ∷ []) (name_same s u g), e.0)
      by_test false g go = go (λ i. h (ap (λ z. z || list_any (name_eq s) us) g ∙ i))

  below_length : {A : Type 0} (xs : List A) (n : ℕ) (x : A) → slice_get xs n ≡ Some x → n < length xs
  below_length [] n x e = absurd cc
  below_length (y ∷ ys) zero x e = omega arith
  below_length (y ∷ ys) (suc n) x e = more (length ys) n (below_length ys n x e)
    where
      more : (m n : ℕ) → n < m → suc n < suc m
      more m n h = omega (arith, h)

  plain_case : (P : Case → Type 0) (s : List ℕ) (t : Typ) → caught_as classes (form_in t) ≡ s ∷ [] → Each P (cases classes known) → Found P t
  plain_case P s t is e = by_spelling P s known t is (λ i. i) (behind_classes P (length classes) (spelling_cases classes known known) e)

  class_case : (P : Case → Type 0) (n : ℕ) (t : Typ) → form_in t ≡ class n → Each P (cases classes known) → (o : Option Class) → slice_get classes n ≡ o
      → Found P t
  class_case P n t is e None g = plain_case P (spelled classes (class n)) t
      (ap (λ z. caught_as classes z) is ∙ ap (λ (z : List ℕ). spelled classes (class n) ∷ map (λ b. spelled classes (class b)) z) (none_of_class n g)) e
  class_case P n t is e (Some x) g = (of_class n, is, among_classes P n (length classes) (spelling_cases classes known known) (below_length classes n x g) e)

  pub each_type : (P : Case → Type 0) → Each P (cases classes known) → (t : Typ) → Found P t
  each_type P e (typ (class n) c v) = class_case P n (typ (class n) c v) refl e (slice_get classes n) refl
  each_type P e (typ f c v) = plain_case P (spelled classes f) (typ f c v) refl e

  -- Handlers

  catches_is : (h t : Typ) → catches classes h t ≡ caught_by classes known (handler_spelling classes known h) (caught_as classes (form_in t))
  catches_is (typ void c v) t = refl
  catches_is (typ (ref u) c v) t = refl
  catches_is (typ f c v) t = refl

  apart : (s u : List ℕ) → is_known known s ≡ true → is_known known u ≡ false → (b : Bool) → name_eq s u ≡ b → b ≡ false
  apart s u h g true e = absurd (true≢false (sym h ∙ (ap (λ z. is_known known z) (name_same s u e) ∙ g)))
  apart s u h g false e = refl

  -- types of other spellings are not caught by their names
  others_answer : (o : Option (List ℕ)) (u : List ℕ) (a : Bool) → is_known known u ≡ false → answer_in classes known of_others o ≡ Some a
      → caught_by classes known o (u ∷ []) ≡ a
  others_answer None u a h e = cc
  others_answer (Some s) u a h e = by_test (is_known known s) refl e
    where
      by_test : (b : Bool) → is_known known s ≡ b → cond b (Some false) None ≡ Some a → (name_eq s u || false) ≡ a
      by_test true g i =
          let no : false ≡ a = cc in
          ap (λ z. z || false) (apart s u g h (name_eq s u) refl) ∙ no
      by_test false g i = absurd cc

  pub answer_right : (c : Case) (h t : Typ) (a : Bool) → In c t → answer_in classes known c (handler_spelling classes known h) ≡ Some a
      → catches classes h t ≡ a
  answer_right (of_class n) h t a is e =
      let same : caught_by classes known (handler_spelling classes known h) (caught_as classes (class n)) ≡ a = cc in
      catches_is h t ∙ (ap (λ z. caught_by classes known (handler_spelling classes known h) (caught_as classes z)) is ∙ same)
  answer_right (of_spelling s) h t a is e =
      let same : caught_by classes known (handler_spelling classes known h) (s ∷ []) ≡ a = cc in
      catches_is h t ∙ (ap (λ (z : List (List ℕ)). caught_by classes known (handler_spelling classes known h) z) is ∙ same)
  answer_right of_others h t a is e =
      catches_is h t ∙ (ap (λ (z : List (List ℕ)). caught_by classes known (handler_spelling classes known h) z) is.1 ∙ others_answer
      (handler_spelling classes known h) is.0 a is.2 e)

  -- Rows

  head_same : (x y : List ℕ) (xs ys : List (List ℕ)) → x ∷ xs ≡ y ∷ ys → x ≡ y
  head_same x y xs ys e = cc

  own_first : (f : Form) → (others : List (List ℕ)) × (caught_as classes f ≡ spelled classes f ∷ others)
  own_first (class n) = (map (λ b. spelled classes (class b)) (bases classes n), refl)
  own_first f = ([], refl)

  spelling_is : (f : Form) (s : List ℕ) → caught_as classes f ≡ s ∷ [] → spelled classes f ≡ s
  spelling_is f s e =
      let o = own_first f in
      head_same (spelled classes f) s o.0 [] (sym o.1 ∙ e)

  that_is : (c : Case) (t : Typ) (s : List ℕ) → In c t → is_known known s ≡ true → name_eq s (spelled classes (form_in t)) ≡ is_that classes known c s
  that_is (of_class n) t s is h = ap (λ z. name_eq s (spelled classes z)) is
  that_is (of_spelling u) t s is h = ap (λ z. name_eq s z) (spelling_is (form_in t) u is)
  that_is of_others t s is h = ap (λ z. name_eq s z) (spelling_is (form_in t) is.0 is.1) ∙ apart s is.0 h is.2 (name_eq s is.0) refl

  module _ (numbers : Typ → ℕ) (spelling_of : ℕ → List ℕ) (c : Case) (t : Typ) (is : In c t) where
    takes_same : (r : Row) (b : Bool) → nat_eq r.what 1 ≡ b
        → (nat_eq r.what 1 ≡ true → (is_known known (spelling_of r.ty) ≡ true)
        × ((u : Typ) → nat_eq r.ty (numbers u) ≡ name_eq (spelling_of r.ty) (spelled classes (form_in u))))
        → (not b || nat_eq r.ty (numbers t)) ≡ (not b || is_that classes known c (spelling_of r.ty))
    takes_same r true e h =
        let g = h e in
        g.1 t ∙ that_is c t (spelling_of r.ty) is g.0
    takes_same r false e h = refl

    pub find_same : (rows : List Row) (i : ℕ) → AreSpelled classes known numbers spelling_of rows
        → find rows i (numbers t) ≡ find_in classes known spelling_of c rows i
    find_same [] i h = refl
    find_same (r ∷ rs) i h = ap₂ (λ (b : Bool) (o : Option Row). if covers r i && b then Some r else o) (takes_same r (nat_eq r.what 1) refl h.0)
        (find_same rs i h.1)

-- An exception that is not known lands in each case

module _ (p : Program) (f : Func) (b : Bounds) (notes : List Note) (thrown : Typ → Bool) (known : List (List ℕ)) (numbers : Typ → ℕ) (spelling_of : ℕ → List ℕ)
    (rows : List Row) (facts : List Fact) (rank index : ℕ) (q : Place) (n : ℕ) (o : Outcome) where
  abbrev pub CaseFits : Case → Type 0
  CaseFits c = FoundFits p f b notes thrown facts (answers_in p.classes known n c) rank (find_in p.classes known spelling_of c rows index) q (unknown n) o

  tested : (c : Case) (t : Typ) (m : ℕ) (handler : Tree) (answer : Bool) (z : Bool) → (m == n) ≡ z → Falls p.classes known c t
      → cond z (answer_in p.classes known c (handler_spelling p.classes known (typ_in handler))) None ≡ Some answer
      → (◌≡◌ {A = Exception} (unknown n) (unknown m)) × (catches p.classes (typ_in handler) t ≡ answer)
  tested c t m handler answer true i is e = (ap unknown (sym (eqb-true m n i)), answer_right p.classes known c (typ_in handler) t answer is e)
  tested c t m handler answer false i is e = absurd cc

  pub cases_fit : AreSpelled p.classes known numbers spelling_of rows → Each CaseFits (cases p.classes known) → (t : Typ) → IsOf (unknown n) t
      → TypeFits p f b notes thrown numbers rows facts rank index q (unknown n) o t
  cases_fit spelled_rows fits t any =
      let c = each_type p.classes known CaseFits fits t in
      record {
        answers = answers_in p.classes known n c.0;
        right = λ m handler answer e. tested c.0 t m handler answer (m == n) refl c.1 e;
        found = subst (λ z. FoundFits p f b notes thrown facts (answers_in p.classes known n c.0) rank z q (unknown n) o)
            (sym (find_same p.classes known numbers spelling_of c.0 t c.1 rows index spelled_rows)) c.2;
      }
