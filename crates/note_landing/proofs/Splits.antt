-- An exception of which nothing is known flies where it does so in each case of its type.
use Rattle.std.proofs.Common.{ℕ, zero, suc, ◌≡◌, ◌≢◌, ◌+◌, ◌<◌, ◌≤◌, ◌==◌, cond, Bool, true, false, not, ◌&&◌, ◌||◌, ◌++◌, if◌then◌else◌, refl, ap, ap₂, sym, ◌∙◌, subst, List, [], ◌∷◌, Option, Some, None, arith}
use Rattle.std.specs.Prelude.{slice_get, map, length, unwrap_or, nat_eq}
use Rattle.std.specs.Global.{Vec}
use Rattle.std.proofs.lemmas.Bool.{true≢false, and_parts, eqb-true, eq-eqb, ltb-true}
use Rattle.tx_code.specs.declared.body.Row.{Row}
use Rattle.tx_code.specs.Meaning.{covers}
use Rattle.cpp_tree.specs.cpp_types.Class.{Class}
use Rattle.cpp_tree.specs.cpp_types.Equal.{name_eq}
use Rattle.cpp_tree.specs.cpp_types.Typ.{Typ, typ, Form, class}
use Rattle.cpp_tree.specs.cpp_types.Conversion.{bases}
use Rattle.cpp_tree.specs.Trees.{Tree, typ_in}
use Rattle.src_mean.specs.Exceptions.{caught_as, catches, form_in}
use Rattle.src_bind.specs.Tables.{typed}
use Rattle.symbolic_source.specs.Terms.{Exception, unknown}
use Rattle.symbolic_source.specs.Outcomes.{Outcome}
use Rattle.symbolic_code.specs.Places.{Place}
use Rattle.symbolic_terms.specs.Meanings.{Meaning}
use Rattle.symbolic_leaving.specs.Answers.{texts_of}
use Rattle.body_check.specs.Cases.{Case, of_class, of_spelling, of_others, spelled, is_that, answer_in, answers_in, find_in, handler_spelling, Falls, class_cases, spelling_cases, AreSpelled, Each}
use Rattle.body_check.specs.Notes.{TypeFits}
use Rattle.body_check.proofs.Cases.{each_type, answer_right, find_same}
use Rattle.note_landing.specs.declared.cases.Unknown.{Unknown}
use Rattle.note_landing.specs.declared.notes.Notes.{Notes}
use Rattle.note_landing.specs.declared.compiled.Compiled.{Compiled}
use Rattle.tx_code.specs.Images.{ImageView}
use Rattle.image_links.specs.Books.{spelling_place, names_class, is_class, is_told_apart, cancels_alike}
use Rattle.note_landing.specs.Books.{bounds}
use Rattle.note_landing.specs.Cases.{text_at, SpelledBy, IsTextOf, is_that_text, row_in, spellings_by, EachFirst, EachSpelling, Needed, CaseBy, NeededBy, CasesBy}
use Rattle.note_landing.proofs.Shows.{shown_at, more_each, each_all}
use Rattle.note_landing.specs.Shown.{linked_by, func_by, image_by, rows_by, notes_by, thrown_by, numbers_by, facts_by, given_by, FoundFitsBy, FliesBy}

name_same : (s t : List ℕ) → name_eq s t ≡ true → s ≡ t
name_same [] [] h = refl
name_same [] (b ∷ t) h = absurd (true≢false (sym h))
name_same (a ∷ s) [] h = absurd (true≢false (sym h))
name_same (a ∷ s) (b ∷ t) h =
    let g = and_parts (a == b) (name_eq s t) h in
    ap₂ (λ (x : ℕ) (y : List ℕ). x ∷ y) (eqb-true a b g.0) (name_same s t g.1)

name_itself : (s : List ℕ) → name_eq s s ≡ true
name_itself [] = refl
name_itself (a ∷ s) = ap₂ (λ x y. x && y) (eq-eqb a a refl) (name_itself s)

-- a spelling that is there stands at its place
stands_there : (ts : List (List ℕ)) (s : List ℕ) → spelling_place s ts < length ts → unwrap_or (slice_get ts (spelling_place s ts)) [] ≡ s
stands_there [] s h = absurd (none h)
  where
    none : 0 < 0 → ⊥
    none h = omega (arith, h)
stands_there (t ∷ ts) s h = by_test (λ k. stands_there ts s k) (name_eq s t) refl
  where
    less : (m n : ℕ) → suc m < suc n → m < n
    less m n h = omega (arith, h)

    by_test : (spelling_place s ts < length ts → unwrap_or (slice_get ts (spelling_place s ts)) [] ≡ s) → (b : Bool) → name_eq s t ≡ b → unwrap_or (slice_get (t ∷ ts) (cond b 0 (suc (spelling_place s ts)))) [] ≡ s
    by_test below true e = sym (name_same s t e)
    by_test below false e = below (less (spelling_place s ts) (length ts) (subst (λ z. cond z 0 (suc (spelling_place s ts)) < suc (length ts)) e h))

-- the number of a spelling is that of no other
number_is : (ts : List (List ℕ)) (n : ℕ) (s : List ℕ) → spelling_place (unwrap_or (slice_get ts n) []) ts ≡ n → n < length ts → nat_eq n (spelling_place s ts) ≡ name_eq (unwrap_or (slice_get ts n) []) s
number_is ts n s e h = by_test (name_eq own s) refl
  where
    own : List ℕ
    own = unwrap_or (slice_get ts n) []

    same : n ≡ spelling_place s ts → own ≡ s
    same i = ap (λ z. unwrap_or (slice_get ts z) []) i ∙ stands_there ts s (subst (λ z. z < length ts) i h)

    other : (b : Bool) → nat_eq n (spelling_place s ts) ≡ b → name_eq own s ≡ false → b ≡ false
    other false i g = refl
    other true i g = absurd (true≢false (sym (subst (λ z. name_eq own z ≡ true) (same (eqb-true n (spelling_place s ts) i)) (name_itself own)) ∙ g))

    by_test : (b : Bool) → name_eq own s ≡ b → nat_eq n (spelling_place s ts) ≡ b
    by_test true g = eq-eqb n (spelling_place s ts) (sym e ∙ ap (λ z. spelling_place z ts) (name_same own s g))
    by_test false g = other (nat_eq n (spelling_place s ts)) refl g

module _ (classes : List Class) (known : List (List ℕ)) where
  spelled_rows : (i : ImageView) (rows : List Row) → SpelledBy i known rows → AreSpelled classes known (λ t. spelling_place (spelled classes (form_in t)) i.types) (text_at i) rows
  spelled_rows i [] s = tt
  spelled_rows i (r ∷ rs) s = ((λ e. ((s.0 e).known_so, λ t. number_is i.types r.ty (spelled classes (form_in t)) (s.0 e).place (s.0 e).there)), spelled_rows i rs s.1)

  text_that : (c : Case) (o : Option (Vec ℕ)) (s : List ℕ) → IsTextOf classes c o → is_that_text o s ≡ is_that classes known c s
  text_that (of_class n) None s h = absurd h
  text_that (of_class n) (Some t) s h = ap (λ z. name_eq s z) h
  text_that (of_spelling u) None s h = absurd h
  text_that (of_spelling u) (Some t) s h = ap (λ z. name_eq s z) h
  text_that of_others None s h = refl
  text_that of_others (Some t) s h = absurd h

  pub row_found : (image : ImageView) (c : Case) (o : Option (Vec ℕ)) (rows : List Row) (i : ℕ) → IsTextOf classes c o → row_in image o rows i ≡ find_in classes known (text_at image) c rows i
  row_found image c o [] i h = refl
  row_found image c o (r ∷ rs) i h = ap₂ (λ (b : Bool) (z : Option Row). if covers r i && (not (nat_eq r.what 1) || b) then Some r else z) (text_that c o (text_at image r.ty) h) (row_found image c o rs i h)

  -- one class more
  pub each_class : (P : Case → Type 0) (n m : ℕ) → n ≡ suc m → P (of_class m) → Each P (class_cases classes known m) → Each P (class_cases classes known n)
  each_class P n m e p es = subst (λ z. Each P (class_cases classes known z)) (sym e) (p, es)

  each_more : (P : Case → Type 0) (n : ℕ) (others : List Case) → Each P (class_cases classes known n) → Each P others → Each P (class_cases classes known n ++ others)
  each_more P zero others es os = os
  each_more P (suc n) others es os = (es.0, each_more P n others es.1 os)

  each_spelling : (P : Case → Type 0) (ss : List (List ℕ)) → ((n : ℕ) (s : List ℕ) → slice_get ss n ≡ Some s → P (of_spelling s)) → P of_others → Each P (spelling_cases classes known ss)
  each_spelling P [] f e = (e, tt)
  each_spelling P (s ∷ ss) f e = (f 0 s refl, each_spelling P ss (λ n t h. f (suc n) t h) e)

-- ---- a type that is thrown is in a case that is asked for

module _ (classes : List Class) (known : List (List ℕ)) (P : Case → Type 0) where
  abbrev pub Found : Typ → Type 0
  Found t = (c : Case) × Falls classes known c t × P c

  class_at : (n most : ℕ) → n < most → Each P (class_cases classes known most) → P (of_class n)
  class_at n zero h es = absurd (below_none n h)
    where
      below_none : (n : ℕ) → n < 0 → ⊥
      below_none n h = omega (arith, h)
  class_at n (suc most) h es = by_test (n == most) refl (λ i. class_at n most i es.1)
    where
      lower : (n most : ℕ) → n < suc most → n ≢ most → n < most
      lower n most h g = omega (arith, h, g)

      by_test : (b : Bool) → (n == most) ≡ b → (n < most → P (of_class n)) → P (of_class n)
      by_test true g go = subst (λ z. P (of_class z)) (sym (eqb-true n most g)) es.0
      by_test false g go = go (lower n most h (λ e. true≢false (sym (eq-eqb n most e) ∙ g)))

  needed_classes : (n : ℕ) → Each P (class_cases classes known n) → Each (Needed classes P) (class_cases classes known n)
  needed_classes zero es = tt
  needed_classes (suc n) es = (es.0, needed_classes n es.1)

  head_same : (x y : List ℕ) (xs ys : List (List ℕ)) → x ∷ xs ≡ y ∷ ys → x ≡ y
  head_same x y xs ys e = cc

  own_first : (f : Form) → (others : List (List ℕ)) × (caught_as classes f ≡ spelled classes f ∷ others)
  own_first (class n) = (map (λ b. spelled classes (class b)) (bases classes n), refl)
  own_first f = ([], refl)

  spelling_is : (f : Form) (s : List ℕ) → caught_as classes f ≡ s ∷ [] → spelled classes f ≡ s
  spelling_is f s e =
      let o = own_first f in
      head_same (spelled classes f) s o.0 [] (sym o.1 ∙ e)

  of_a_class : Each P (class_cases classes known (length classes)) → (t : Typ) → is_class classes (form_in t) ≡ true → Found t
  of_a_class es (typ (class n) c v) e = (of_class n, refl, class_at n (length classes) (ltb-true n (length classes) e) es)
  of_a_class es (typ f c v) e = absurd (true≢false (sym e))

  -- what is spelled as a class is one
  is_a_class : (t : Typ) (s : List ℕ) → is_told_apart classes t ≡ true → spelled classes (form_in t) ≡ s → names_class classes s ≡ true → is_class classes (form_in t) ≡ true
  is_a_class t s apart is named = by_test (is_class classes (form_in t)) refl
    where
      told : is_class classes (form_in t) || not (names_class classes s) ≡ true
      told = subst (λ z. is_class classes (form_in t) || not (names_class classes z) ≡ true) is apart

      by_test : (b : Bool) → is_class classes (form_in t) ≡ b → b ≡ true
      by_test true e = refl
      by_test false e = subst (λ z. (false || not z) ≡ true) named (subst (λ z. (z || not (names_class classes s)) ≡ true) e told)

  pub type_case : Each P (class_cases classes known (length classes)) → Each (Needed classes P) (spelling_cases classes known known) → (t : Typ) → is_told_apart classes t ≡ true → Found t
  type_case es os t apart =
      let found = each_type classes known (Needed classes P) (each_more classes known (Needed classes P) (length classes) (spelling_cases classes known known) (needed_classes (length classes) es) os) t in
      by_case found.0 found.1 found.2
    where
      by_name : (s : List ℕ) (b : Bool) → names_class classes s ≡ b → caught_as classes (form_in t) ≡ s ∷ [] → (names_class classes s ≡ false → P (of_spelling s)) → Found t
      by_name s false g is go = (of_spelling s, is, go g)
      by_name s true g is go = of_a_class es t (is_a_class t s apart (spelling_is (form_in t) s is) g)

      by_case : (c : Case) → Falls classes known c t → Needed classes P c → Found t
      by_case (of_class n) is p = (of_class n, is, p)
      by_case (of_spelling s) is p = by_name s (names_class classes s) refl is p
      by_case of_others is p = (of_others, is, p)

module _ (classes : List Class) (known : List (List ℕ)) (n : ℕ) where
  -- answers on the types of a case are right
  tested : (c : Case) (t : Typ) (m : ℕ) (handler : Tree) (answer : Bool) (z : Bool) → (m == n) ≡ z → Falls classes known c t
      → cond z (answer_in classes known c (handler_spelling classes known (typ_in handler))) None ≡ Some answer
      → (◌≡◌ {A = Exception} (unknown n) (unknown m)) × (catches classes (typ_in handler) t ≡ answer)
  tested c t m handler answer true i is e = (ap unknown (sym (eqb-true m n i)), answer_right classes known c (typ_in handler) t answer is e)
  tested c t m handler answer false i is e = absurd cc

pub all_cases : (b : Compiled) (m : Meaning) (ns : Notes) (u : Unknown) (q : Place) (o : Outcome) → u.rank ≤ 63 → CasesBy b m ns u q o → FliesBy b m ns (facts_by b m u.known) u.index q (unknown u.number) o u.rank
all_cases b m ns u q o low c = record {
  flies = record {
    rank = u.rank;
    low = low;
    fits = λ t is told. fits_so t told;
  };
  rank_is = refl;
}
  where
    classes : List Class
    classes = (linked_by b).classes

    known : List (List ℕ)
    known = spellings_by b

    apart : (t : Typ) → thrown_by b t ≡ true → is_told_apart classes t ≡ true
    apart t told = (and_parts (cancels_alike (image_by b) (linked_by b) (typed (given_by b)) t) (is_told_apart classes t) told).1

    fits_so : (t : Typ) → thrown_by b t ≡ true
        → TypeFits (linked_by b) (func_by b) bounds (notes_by b m ns) (thrown_by b) (numbers_by b) (rows_by b) (facts_by b m u.known) u.rank u.index q (unknown u.number) o t
    fits_so t told =
        let found = type_case classes known (CaseBy b m ns u q o) c.classes
        (each_spelling classes known (NeededBy b m ns u q o) known c.spellings c.others) t (apart t told) in
        record {
          answers = answers_in classes known u.number found.0;
          right = λ k handler answer e. tested classes known u.number found.0 t k handler answer (k == u.number) refl found.1 e;
          found = subst (λ z. FoundFitsBy b m ns (facts_by b m u.known) (answers_in classes known u.number found.0) u.rank z q (unknown u.number) o)
              (sym (find_same classes known (numbers_by b) (text_at (image_by b)) found.0 t found.1 (rows_by b) u.index
              (spelled_rows classes known (image_by b) (rows_by b) c.spelled_rows))) found.2;
        }

-- ---- the cases one by one

module _ (b : Compiled) (m : Meaning) (ns : Notes) (u : Unknown) (q : Place) (o : Outcome) where
  -- the row of a case
  pub case_as : (c : Case) (text : Option (Vec ℕ)) (row : Option Row) (x : Exception) → IsTextOf (linked_by b).classes c text → row ≡ row_in (image_by b) text (rows_by b) u.index → x ≡ unknown u.number
      → FoundFitsBy b m ns (facts_by b m u.known) (answers_in (linked_by b).classes (spellings_by b) u.number c) u.rank row q x o → CaseBy b m ns u q o c
  case_as c text row x is e i w =
      subst (λ z. FoundFitsBy b m ns (facts_by b m u.known) (answers_in (linked_by b).classes (spellings_by b) u.number c) u.rank z q (unknown u.number) o)
      (e ∙ row_found (linked_by b).classes (spellings_by b) (image_by b) c text (rows_by b) u.index is)
      (subst (λ z. FoundFitsBy b m ns (facts_by b m u.known) (answers_in (linked_by b).classes (spellings_by b) u.number c) u.rank row q z o) i w)

  -- all classes
  pub cases_as : (n : ℕ) → n ≡ length (linked_by b).classes → SpelledBy (image_by b) (spellings_by b) (rows_by b) → Each (CaseBy b m ns u q o) (class_cases (linked_by b).classes (spellings_by b) n) → EachSpelling (NeededBy b m ns u q o) (spellings_by b)
      → CaseBy b m ns u q o of_others → CasesBy b m ns u q o
  cases_as n e spelled classes spellings others = record {
    spelled_rows = spelled;
    classes = subst (λ z. Each (CaseBy b m ns u q o) (class_cases (linked_by b).classes (spellings_by b) z)) e classes;
    spellings = spellings;
    others = others;
  }

  -- a spelling
  pub spelling_as : (s t : List ℕ) → s ≡ t → CaseBy b m ns u q o (of_spelling s) → CaseBy b m ns u q o (of_spelling t)
  spelling_as s t e w = subst (λ z. CaseBy b m ns u q o (of_spelling z)) e w

-- ---- spelling by spelling

same_length : {A B : Type 0} (f : A → B) (xs : List A) → length (map f xs) ≡ length xs
same_length f [] = refl
same_length f (x ∷ xs) = ap suc (same_length f xs)

module _ (P : Case → Type 0) (ss : List (Vec ℕ)) where
  pub spelling_more : (n last : ℕ) (s : Vec ℕ) (t : List ℕ) → n ≡ last + 1 → slice_get ss last ≡ Some s → t ≡ s.items → P (of_spelling t) → EachFirst last P (texts_of ss) → EachFirst n P (texts_of ss)
  spelling_more n last s t e there i p before =
      let h : P (of_spelling s.items) = subst (λ z. P (of_spelling z)) i p in
      subst (λ z. EachFirst z P (texts_of ss)) (sym e) (more_each (λ z. P (of_spelling z)) (texts_of ss) last s.items (shown_at (λ (v : Vec ℕ). v.items) ss last s there) h before)

  pub all_spellings : (n : ℕ) → n ≡ length ss → EachFirst n P (texts_of ss) → EachSpelling P (texts_of ss)
  all_spellings n e before =
      let i = same_length (λ (t : Vec ℕ). t.items) ss in
      each_all (λ t. P (of_spelling t)) (texts_of ss) n (omega (arith, e, i)) before
