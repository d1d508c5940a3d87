-- The words of a call that are passed into the frame.
use Rattle.std.proofs.Common.{◌≡◌, ◌∙◌, ℕ, zero, suc, ◌+◌, List, [], ◌∷◌, refl, sym, ap, drop, add-one}
use Rattle.std.specs.Prelude.{Some, None, slice_get}
use Rattle.std.proofs.lemmas.Option.{slice_get_within, get_or_from_slice_get}
use Rattle.std.proofs.Math.Seq.{drop-cons}
use Rattle.src_mean.specs.Linked.{Func, Program, WordPlace}
use Rattle.symbolic_source.specs.Terms.{Term, number, local}
use Rattle.symbolic_source.specs.Frames.{Waiting, Frame, Passes}
use Rattle.symbolic_source.specs.Outcomes.{writes, goes}
use Rattle.symbolic_source.specs.Steps.{Answers, given}

drop_some : {A : Type 0} (xs : List A) (n : ℕ) (x : A) → slice_get xs n ≡ Some x → drop n xs ≡ x ∷ drop (n + 1) xs
drop_some xs n x e =
    let here : drop n xs ≡ _ ∷ drop (suc n) xs = drop-cons xs n x (slice_get_within xs n x e) in
    here ∙ ap (λ z. z ∷ drop (suc n) xs) (get_or_from_slice_get xs n x x e) ∙ ap (λ z. x ∷ drop z xs) (sym (add-one n))

drop_none : {A : Type 0} (xs : List A) (n : ℕ) → slice_get xs n ≡ None → drop n xs ≡ []
drop_none [] zero e = refl
drop_none [] (suc n) e = refl
drop_none (x ∷ xs) zero e = absurd cc
drop_none (x ∷ xs) (suc n) e = drop_none xs n e

module _ (p : Program) (f : Func) (answers : Answers) (ws : List Waiting) (v w : Term) (terms : List Term) (places : List WordPlace) (from : ℕ) (k : List Frame) where
  -- no place is left
  pub pass_no_place : slice_get places from ≡ None → given p f answers ws v (Passes (w ∷ terms) (drop from places) ∷ k) ≡ given p f answers ws (number 0) k
  pass_no_place g = ap (λ z. given p f answers ws v (Passes (w ∷ terms) z ∷ k)) (drop_none places from g)

  pub pass_one : (place : WordPlace) → slice_get places from ≡ Some place → given p f answers ws v (Passes (w ∷ terms) (drop from places) ∷ k) ≡ goes (writes (local place.offset) place.kind w place.volatile) ws (Passes terms (drop (from + 1) places) ∷ k)
  pass_one place g = ap (λ z. given p f answers ws v (Passes (w ∷ terms) z ∷ k)) (drop_some places from place g)
