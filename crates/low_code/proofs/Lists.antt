-- Lists that are gone through.
use Rattle.std.proofs.Common.{◌≡◌, ◌∙◌, ℕ, suc, ◌+◌, List, ◌∷◌, sym, ap, drop, add-one}
use Rattle.std.specs.Prelude.{Some, slice_get}
use Rattle.std.proofs.lemmas.Option.{slice_get_within, get_or_from_slice_get}
use Rattle.std.proofs.Math.Seq.{drop-cons}

-- the items from a place on
pub drop_at : {A : Type 0} (xs : List A) (n : ℕ) (x : A) → slice_get xs n ≡ Some x → drop n xs ≡ x ∷ drop (n + 1) xs
drop_at xs n x e =
    let here : drop n xs ≡ _ ∷ drop (suc n) xs = drop-cons xs n x (slice_get_within xs n x e) in
    here ∙ ap (λ z. z ∷ drop (suc n) xs) (get_or_from_slice_get xs n x x e) ∙ ap (λ z. x ∷ drop z xs) (sym (add-one n))
