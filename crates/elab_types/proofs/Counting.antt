-- Counting among the spellings of tokens.
use Rattle.std.proofs.Common.{◌≡◌, ℕ, ◌+◌, cond, List, [], ◌∷◌, map, refl, sym, ap, ◌∙◌}
use Rattle.std.proofs.lemmas.List.Sums.{sum_by-cons}
use Rattle.std.specs.List.{count_by}
use Rattle.std.specs.Str.{bytes_eq}

pub times_map : (f : ℕ → List ℕ) (word : List ℕ) (xs : List ℕ)
    → count_by (λ (w : List ℕ). bytes_eq w word) (map f xs) ≡ count_by (λ (x : ℕ). bytes_eq (f x) word) xs
times_map f word [] = refl
times_map f word (x ∷ xs) = sum_by-cons (λ (w : List ℕ). cond (bytes_eq w word) 1 0) (f x) (map f xs)
    ∙ ap (λ (n : ℕ). cond (bytes_eq (f x) word) 1 0 + n) (times_map f word xs) ∙ sym (sum_by-cons (λ (y : ℕ). cond (bytes_eq (f y) word) 1 0) x xs)
