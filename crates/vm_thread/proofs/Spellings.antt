-- A spelling without what may stand at its end.
use Rattle.std.proofs.Common.{Bool, true, false, ◌≡◌, ◌<◌, ℕ, ◌+◌, ◌-◌, List, [], ◌∷◌, ◌++◌, length, take, drop, refl, sym, ap, ◌∙◌, arith, length-append}
use Rattle.std.specs.Prelude.{nat_eq, if◌then◌else◌}
use Rattle.std.specs.Cmp.Lexicographic.{pointwise, bytes_decides}
use Rattle.std.proofs.lemmas.Bool.{true≢false}
use Rattle.std.proofs.lemmas.List.{take-append-drop}
use Rattle.std.proofs.Math.Seq.{drop-append-add}
use Rattle.tx_code.specs.Signatures.{without_suffix}

eq_true : (xs ys : List ℕ) → xs ≡ ys → pointwise nat_eq xs ys ≡ true
eq_true xs ys e = (bytes_decides xs ys).1 e

true_eq : (xs ys : List ℕ) → pointwise nat_eq xs ys ≡ true → xs ≡ ys
true_eq xs ys e = (bytes_decides xs ys).0 e

longer : (xs ys : List ℕ) (b : Bool) → pointwise nat_eq xs ys ≡ b → length xs < length ys → b ≡ false
longer xs ys false e h = refl
longer xs ys true e h = let l : length xs ≡ length ys = ap length (true_eq xs ys e) in absurd (omega arith)

-- what stands before the suffix
pub before_suffix : (suffix front : List ℕ) → 0 < length suffix → without_suffix suffix (front ++ suffix) ≡ front
before_suffix [] front h = absurd (omega arith)
before_suffix (s ∷ ss) [] h = ap (λ b. if b then [] else (s ∷ without_suffix (s ∷ ss) ss)) (eq_true (s ∷ ss) (s ∷ ss) refl)
before_suffix (s ∷ ss) (f ∷ fs) h =
    let l : length (s ∷ ss) < length (f ∷ fs ++ s ∷ ss) = omega (arith, length-append fs (s ∷ ss)) in
    ap (λ b. if b then [] else (f ∷ without_suffix (s ∷ ss) (fs ++ s ∷ ss))) (longer (s ∷ ss) (f ∷ fs ++ s ∷ ss) _ refl l)
    ∙ ap (λ z. f ∷ z) (before_suffix (s ∷ ss) fs h)

-- and a spelling that has another end
pub no_suffix : (suffix name : List ℕ) → ((front : List ℕ) → name ≡ front ++ suffix → ⊥) → without_suffix suffix name ≡ name
no_suffix suffix [] h = refl
no_suffix suffix (c ∷ cs) h = by_test (pointwise nat_eq suffix (c ∷ cs)) refl (no_suffix suffix cs (λ front k. h (c ∷ front) (ap (λ z. c ∷ z) k))) where
  by_test : (b : Bool) → pointwise nat_eq suffix (c ∷ cs) ≡ b → without_suffix suffix cs ≡ cs → (if b then [] else (c ∷ without_suffix suffix cs)) ≡ c ∷ cs
  by_test true e k = absurd (h [] (sym (true_eq suffix (c ∷ cs) e)))
  by_test false e k = ap (λ z. c ∷ z) k

pub stripped : (suffix name front : List ℕ) → 0 < length suffix → pointwise nat_eq (drop (length name - length suffix) name) suffix ≡ true
    → front ≡ take (length name - length suffix) name → front ≡ without_suffix suffix name
stripped suffix name front h e f =
    let w : name ≡ front ++ suffix = sym (take-append-drop (length name - length suffix) name)
    ∙ ap (λ z. take (length name - length suffix) name ++ z) (true_eq _ suffix e) ∙ ap (λ z. z ++ suffix) (sym f) in
    sym (before_suffix suffix front h) ∙ ap (without_suffix suffix) (sym w)

pub whole : (suffix name : List ℕ) → pointwise nat_eq (drop (length name - length suffix) name) suffix ≡ false → name ≡ without_suffix suffix name
whole suffix name e = sym (no_suffix suffix name (λ front k. true≢false (sym (eq_true _ suffix (back front k)) ∙ e))) where
  back : (front : List ℕ) → name ≡ front ++ suffix → drop (length name - length suffix) name ≡ suffix
  back front k =
      let l : length name - length suffix ≡ length front + 0 = omega (arith, ap length k, length-append front suffix) in
      ap (λ z. drop z name) l ∙ ap (drop (length front + 0)) k ∙ drop-append-add front suffix 0
