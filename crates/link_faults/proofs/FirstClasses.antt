-- The table of the first classes.
use Rattle.std.proofs.Common.{Bool, true, false, ◌≡◌, ◌<◌, ◌≢◌, ℕ, suc, zero, ◌+◌, List, [], ◌∷◌, ◌++◌, map, take, length, refl, sym, ap, ◌∙◌, arith, Option}
use Rattle.std.proofs.Common.{Some, None, ◌&&◌, ◌||◌, not, nat_eq, cond, slice_get, slice_set, add-one, IfSome}
use Rattle.std.specs.List.{All}
use Rattle.std.specs.Option.{option_map}
use borrow.Author.Tests.{eqb-true, eqb-false}
use Rattle.link_faults.specs.declared.classes.RankedClass.{RankedClass}
use Rattle.link_faults.specs.Faults.{first_of}
use Rattle.link_faults.specs.Disputes.{IsLeast}
use Rattle.link_faults.specs.RankedClasses.{RankedView, view_of, view_at, has_rank, AreFirstClasses, is_same_class, is_disputed_class, differs}
use Rattle.link_faults.proofs.FirstClaims.{get_set_same, get_set_other, first_goes_on, first_is_last, first_skips, inside, same_least}
use Rattle.link_faults.proofs.FirstOnes.{more_differ}
use Rattle.link_faults.proofs.ClassTests.{classes_spread}

pub take_next : (views : List RankedView) (i : ℕ) → i < length views → take (suc i) views ≡ take i views ++ view_at views i ∷ []
take_next [] i l = absurd (omega arith)
take_next (v ∷ vs) zero l = refl
take_next (v ∷ vs) (suc i) l = ap (λ ws. v ∷ ws) (take_next vs i (omega arith))

pub seen_class : (views : List RankedView) (i j : ℕ) (name : ℕ) (first : List (Option ℕ)) → (view_at views i).name ≡ name → i < length views
    → slice_get first name ≡ Some (Some j) → AreFirstClasses views i first → AreFirstClasses views (i + 1) first
seen_class views i j name first n l e h k o g = rw (add-one, take_next views i l) (by (nat_eq (view_at views i).name k) refl)
  where
    by : (b : Bool) → nat_eq (view_at views i).name k ≡ b → option_map (view_at views) o ≡ first_of (has_rank k) (take i views ++ view_at views i ∷ [])
    by true q =
        let same : name ≡ k = sym n ∙ eqb-true (view_at views i).name k q in
        let at : slice_get first k ≡ Some (Some j) = rw same at e in
        let is : o ≡ Some j = inside o (Some j) (sym g ∙ at) in
        let was : first_of (has_rank k) (take i views) ≡ Some (view_at views j) = sym (h k (Some j) at) in
        ap (option_map (view_at views)) is ∙ sym (first_goes_on (has_rank k) (take i views) (view_at views i) (view_at views j) was)
    by false q = h k o g ∙ sym (first_skips (has_rank k) (take i views) (view_at views i) q)

none_is : {A B : Type 0} (f : A → B) (r : Option B) → option_map f None ≡ r → r ≡ None
none_is f r e = sym e

pub noted_class : (views : List RankedView) (i : ℕ) (name : ℕ) (first : List (Option ℕ)) → name < length first → (view_at views i).name ≡ name
    → i < length views → slice_get first name ≡ Some None → AreFirstClasses views i first → AreFirstClasses views (i + 1) (slice_set first name (Some i))
noted_class views i name first w n l e h k o g = rw (add-one, take_next views i l) (by (nat_eq (view_at views i).name k) refl)
  where
    by : (b : Bool) → nat_eq (view_at views i).name k ≡ b → option_map (view_at views) o ≡ first_of (has_rank k) (take i views ++ view_at views i ∷ [])
    by true q =
        let same : name ≡ k = sym n ∙ eqb-true (view_at views i).name k q in
        let at : slice_get first k ≡ Some None = rw same at e in
        let is : o ≡ Some i = inside o (Some i) (sym g ∙ get_set_same first name k (Some i) same w) in
        let was : first_of (has_rank k) (take i views) ≡ None = none_is (view_at views) _ (h k None at) in
        ap (option_map (view_at views)) is ∙ sym (first_is_last (has_rank k) (take i views) (view_at views i) was ∙ ap
        (λ b. cond b (Some (view_at views i)) None) q)
    by false q =
        let apart : name ≢ k = λ s. eqb-false (view_at views i).name k q (n ∙ s) in
        let at : slice_get first k ≡ Some o = sym (get_set_other first name k (Some i) apart) ∙ g in
        h k o at ∙ sym (first_skips (has_rank k) (take i views) (view_at views i) q)

pub name_within : (cs : List RankedClass) (n i : ℕ) → All (λ (c : RankedClass). c.name < n) cs → i < length cs → (view_at (map view_of cs) i).name < n
name_within [] n i h l = absurd (omega arith)
name_within (c ∷ cs) n zero h l = h 0 c (omega arith)
name_within (c ∷ cs) n (suc i) h l = name_within cs n i (λ k d m. h (suc k) d (omega arith)) (omega arith)

pub within_at : (first : List (Option ℕ)) (n k : ℕ) (o : Option ℕ) → All (λ (o : Option ℕ). IfSome o (λ j. j < n)) first → slice_get first k ≡ Some o
    → IfSome o (λ j. j < n)
within_at [] n k o h e = cc
within_at (p ∷ ps) n zero o h e = let same : p ≡ o = inside p o e in rw (← same) (h 0 p (omega arith))
within_at (p ∷ ps) n (suc k) o h e = within_at ps n k o (λ j d m. h (suc j) d (omega arith)) e

pub class_step : (views : List RankedView) (i : ℕ) (name : ℕ) (o r : Option ℕ) (disputed : Bool) → i < length views → name ≡ (view_at views i).name
    → disputed ≡ differs (option_map (view_at views) o) (view_at views i) → option_map (view_at views) o ≡ first_of (has_rank name) (take i views)
    → IsLeast (λ k. is_disputed_class (take i views) k || (nat_eq name k && disputed)) r → IsLeast (is_disputed_class (take (i + 1) views)) r
class_step views i name o r disputed l n d f h =
    rw (add-one, take_next views i l)
    (same_least _ (is_disputed_class (take i views ++ view_at views i ∷ []))
    (λ k. sym (more_differ (λ (v : RankedView). v.name) (λ a b. not (is_same_class a b)) classes_spread (take i views) (view_at views i) k ∙ rw
    (← n, ← f, ← d) refl)) r h)
