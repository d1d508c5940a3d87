-- The places of those that pass a test, as the list grows, is cut, and changes.
use Rattle.std.proofs.Common.{◌≡◌, ◌∙◌, ◌<◌, ◌≤◌, ◌+◌, ◌-◌, ◌==◌, ◌&&◌, not, ℕ, zero, suc, Bool, true, false, List, [], ◌∷◌, ◌++◌, length, take, get_or}
use Rattle.std.proofs.Common.{slice_set, Option, Some, None, is_some, if◌then◌else◌, ◌⊎◌, inl, inr, refl, sym, ap, arith}
use Rattle.std.proofs.lemmas.Bool.{and_right, cases_lt}
use Rattle.std.proofs.Math.Seq.{take-append_seam, take-length}
use Rattle.std.proofs.lemmas.List.{length-append, take_all}
use Rattle.std.specs.Str.{bytes_eq}
use Rattle.elab_ctx.specs.declared.env.FuncDecl.{FuncDecl}
use Rattle.elab_ctx.specs.Places.{places_where, changed_at, is_number, is_member_of, is_free_of, one_more, one_less}

-- One more at the end

moved : (b c : Bool) (i j : ℕ) (is : List ℕ) → (if b then i ∷ one_more c is j else one_more c is j) ≡ one_more c (if b then i ∷ is else is) j
moved true true i j is = refl
moved true false i j is = refl
moved false true i j is = refl
moved false false i j is = refl

pub places_push : {A : Type 0} (test : A → Bool) (i j : ℕ) (xs : List A) (x : A) → j ≡ i + length xs
    → places_where test i (xs ++ x ∷ []) ≡ one_more (test x) (places_where test i xs) j
places_push test i j [] x e = let same : i ≡ j = omega arith in ap (λ (z : ℕ). if test x then z ∷ [] else []) same
places_push test i j (y ∷ ys) x e =
    ap (λ (z : List ℕ). if test y then i ∷ z else z) (places_push test (suc i) j ys x (omega arith))
    ∙ moved (test y) (test x) i j (places_where test (suc i) ys)

-- One less

one_back : (b : Bool) (is : List ℕ) (j : ℕ) → is ≡ one_less b (one_more b is j)
one_back true is j =
    let long : length is ≡ length (is ++ j ∷ []) - 1 = simp length-append (omega arith) in
    sym (take-append_seam is (j ∷ [])) ∙ ap (λ (n : ℕ). take n (is ++ j ∷ [])) long
one_back false is j = refl

pub places_pop : {A : Type 0} (test : A → Bool) (old new : List A) (x : A) → old ≡ new ++ x ∷ []
    → places_where test 0 new ≡ one_less (test x) (places_where test 0 old)
places_pop test old new x e =
    one_back (test x) (places_where test 0 new) (length new)
    ∙ ap (one_less (test x)) (sym (places_push test 0 (length new) new x (omega arith)) ∙ ap (places_where test 0) (sym e))

-- One changed, which the test does not see

pub places_changed : {A : Type 0} (test : A → Bool) (g : A → A) → ((x : A) → test (g x) ≡ test x) → (i k : ℕ) (xs : List A)
    → places_where test i (changed_at g k xs) ≡ places_where test i xs
places_changed test g same i k [] = refl
places_changed test g same i zero (x ∷ xs) = ap (λ (b : Bool). if b then i ∷ places_where test (suc i) xs else places_where test (suc i) xs) (same x)
places_changed test g same i (suc k) (x ∷ xs) = ap (λ (z : List ℕ). if test x then i ∷ z else z) (places_changed test g same (suc i) k xs)

-- what a write to one place leaves
pub changed_is : {A : Type 0} (g : A → A) (xs : List A) (k : ℕ) (x : A) → k < length xs → x ≡ get_or xs k x → slice_set xs k (g x) ≡ changed_at g k xs
changed_is g [] k x h e = absurd (omega arith)
changed_is g (y ∷ ys) zero x h e = ap (λ z. g z ∷ ys) e
changed_is g (y ∷ ys) (suc k) x h e = ap (λ z. y ∷ z) (changed_is g ys k x (omega arith) e)

pub changed_past : {A : Type 0} (g : A → A) (xs : List A) (k : ℕ) → length xs ≤ k → xs ≡ changed_at g k xs
changed_past g [] k h = refl
changed_past g (y ∷ ys) zero h = absurd (omega arith)
changed_past g (y ∷ ys) (suc k) h = ap (λ z. y ∷ z) (changed_past g ys k (omega arith))

-- The table behind one more function, and behind one less

pub pushed : {A : Type 0} (test : A → Bool) (xs now : List A) (x : A) (place : ℕ) (old new : List ℕ) (b : Bool) → now ≡ xs ++ x ∷ [] → place ≡ length xs
    → b ≡ true → old ≡ places_where test 0 xs → new ≡ one_more (b && test x) old place → new ≡ places_where test 0 now
pushed test xs now x place old new b grown at ok was is =
    is ∙ ap (λ (z : Bool). one_more (z && test x) old place) ok ∙ ap (λ (z : List ℕ). one_more (test x) z place) was
    ∙ sym (places_push test 0 place xs x (omega arith)) ∙ ap (places_where test 0) (sym grown)

pub popped : {A : Type 0} (test : A → Bool) (before now : List A) (x : A) (old new : List ℕ) → before ≡ now ++ x ∷ [] → old ≡ places_where test 0 before
    → new ≡ one_less (test x) old → new ≡ places_where test 0 now
popped test before now x old new cut was is = is ∙ ap (one_less (test x)) was ∙ sym (places_pop test before now x cut)

-- a function stands in one of the tables

pub member_is : (n class : ℕ) (f : FuncDecl) → f.class ≡ Some class → (class == n) ≡ is_member_of n f
member_is n class f e = ap (is_number n) (sym e)

pub no_member : (n : ℕ) (f : FuncDecl) → f.class ≡ None → is_member_of n f ≡ false
no_member n f e = ap (is_number n) e

pub free_is : (name own : List ℕ) (f : FuncDecl) → f.class ≡ None → own ≡ f.rec.name.items → bytes_eq name own ≡ is_free_of name f
free_is name own f e o = ap (bytes_eq name) o ∙ by (bytes_eq name f.rec.name.items)
    ∙ ap (λ (z : Option ℕ). bytes_eq name f.rec.name.items && not (is_some z)) (sym e)
  where
    by : (b : Bool) → b ≡ (b && true)
    by true = refl
    by false = refl

pub no_free : (name : List ℕ) (class : ℕ) (f : FuncDecl) → f.class ≡ Some class → is_free_of name f ≡ false
no_free name class f e = ap (λ (o : Option ℕ). bytes_eq name f.rec.name.items && not (is_some o)) e ∙ and_right (bytes_eq name f.rec.name.items) false refl

pub more_of : (ok b d : Bool) (old new : List ℕ) (place : ℕ) → b ≡ d → new ≡ one_more (ok && b) old place → new ≡ one_more (ok && d) old place
more_of ok b d old new place e is = is ∙ ap (λ (z : Bool). one_more (ok && z) old place) e

pub none_more : (ok d : Bool) (old : List ℕ) (place : ℕ) → d ≡ false → old ≡ one_more (ok && d) old place
none_more ok d old place e = ap (λ (z : Bool). one_more z old place) (sym (and_right ok d e))

pub less_of : (b d : Bool) (old new : List ℕ) → b ≡ d → new ≡ one_less b old → new ≡ one_less d old
less_of b d old new e is = is ∙ ap (λ (z : Bool). one_less z old) e

pub none_less : (d : Bool) (old : List ℕ) → d ≡ false → old ≡ one_less d old
none_less d old e = ap (λ (z : Bool). one_less z old) (sym e)

-- A list is cut

pub cut_to : {A : Type 0} (xs : List A) (count past : ℕ) → past ≡ length xs - count → take (length xs - past) xs ≡ take count xs
cut_to xs count past e = by (cases_lt count (length xs))
  where
    by : (count < length xs) ⊎ (length xs ≤ count) → take (length xs - past) xs ≡ take count xs
    by (inl h) = let n : length xs - past ≡ count = omega arith in ap (λ (z : ℕ). take z xs) n
    by (inr h) = let n : length xs - past ≡ length xs = omega arith in ap (λ (z : ℕ). take z xs) n ∙ take-length xs ∙ sym (take_all count xs h)
