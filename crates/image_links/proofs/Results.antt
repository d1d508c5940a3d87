-- What a call tells of its Ok, and a step of a loop that looks for a place.
use Rattle.std.proofs.Common.{ℕ, suc, ◌≡◌, ◌+◌, ◌<◌, Bool, false, cond, ap, sym, ◌∙◌, List, drop, length, Some, arith, Result, Ok, Err}
use Rattle.std.specs.Prelude.{IfOk}
use Rattle.std.proofs.lemmas.List.{drop_more}
use Rattle.image_links.specs.Books.{first_place}

pub if_ok : {A E : Type 0} (r : Result A E) (P Q : A → Type 0) → ((v : A) → P v → Q v) → IfOk r P → IfOk r Q
if_ok (Ok v) P Q f h = f v h
if_ok (Err e) P Q f h = h

pub first_on : {A : Type 0} (test : ℕ → Bool) (n : ℕ) (xs : List A) (x : A) → n < length xs → test n ≡ false
    → first_place test (n + 1) (drop (n + 1) xs) ≡ first_place test n (drop n xs)
first_on test n xs x l e =
    ap (λ z. first_place test z (drop (n + 1) xs)) (next n)
    ∙ sym (ap (λ z. first_place test n z) (drop_more xs n x l) ∙ ap (λ b. cond b (Some n) (first_place test (suc n) (drop (n + 1) xs))) e)
  where
    next : (n : ℕ) → n + 1 ≡ suc n
    next n = omega arith
