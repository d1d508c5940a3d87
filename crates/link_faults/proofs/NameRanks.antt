-- Names of objects and their ranks.
use Rattle.std.proofs.Common.{Bool, true, ◌≡◌, ◌<◌, ℕ, suc, zero, List, [], ◌∷◌, map, length, sym, ap, ◌∙◌, arith, slice_get, unwrap_or}
use Rattle.std.specs.Prelude.{slice_index_or}
use Rattle.std.specs.List.{list_all}
use Rattle.std.specs.Global.{Vec}
use Rattle.tx_code.specs.Objects.{bytes_of}
use Rattle.link_faults.specs.Ranks.{is_listed}
use Rattle.link_faults.proofs.Ascending.{and_left, and_right}

pub name_at : (vs : List (Vec ℕ)) (i : ℕ) (r : Vec ℕ) → i < length vs → r ≡ slice_index_or vs i r → unwrap_or (slice_get (map bytes_of vs) i) [] ≡ r.items
name_at [] i r l e = absurd (omega arith)
name_at (v ∷ vs) zero r l e = ap bytes_of (sym e)
name_at (v ∷ vs) (suc i) r l e = name_at vs i r (omega arith) e

pub listed_name : (all names : List (List ℕ)) (i : ℕ) → list_all (is_listed all) names ≡ true → i < length names
    → is_listed all (unwrap_or (slice_get names i) []) ≡ true
listed_name all [] i h l = absurd (omega arith)
listed_name all (n ∷ ns) zero h l = and_left _ _ h
listed_name all (n ∷ ns) (suc i) h l = listed_name all ns i (and_right _ _ h) (omega arith)

-- what holds of all shown items holds of each
pub passes_at : {A B : Type 0} (t : B → Bool) (f : A → B) (xs : List A) (i : ℕ) (x : A) → list_all t (map f xs) ≡ true → i < length xs
    → x ≡ slice_index_or xs i x → t (f x) ≡ true
passes_at t f [] i x h l e = absurd (omega arith)
passes_at t f (y ∷ ys) zero x h l e = ap (λ z. t (f z)) e ∙ and_left _ _ h
passes_at t f (y ∷ ys) (suc i) x h l e = passes_at t f ys i x (and_right _ _ h) (omega arith) e
