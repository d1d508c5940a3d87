-- A walk up a chain of bases.
use Rattle.std.proofs.Common.{◌≡◌, ◌∙◌, ℕ, suc, ◌+◌, ◌==◌, true, false, refl, sym, ap, arith, List, ◌∷◌, Option, Some, None, eq-eqb, ne_eqb}
use Rattle.std.specs.Option.{option_map}
use Rattle.cpp_types.specs.Class.{Class, base_of}
use Rattle.cpp_types.specs.Conversion.{chain, steps_to, first_and}

-- the index of a base where `passed` steps were taken and at most `most` are left
abbrev pub left : List Class → ℕ → ℕ → ℕ → ℕ → Option ℕ
left classes base passed most n = option_map (λ k. passed + k) (steps_to base (chain most classes n))

pub left_none : (classes : List Class) (base passed k n : ℕ) → None ≡ base_of classes n → None ≡ left classes base passed (suc k) n
left_none classes base passed k n e = ap (λ (o : Option ℕ). option_map (λ j. passed + j) (steps_to base (first_and o (chain k classes)))) e

found : (b passed : ℕ) (xs : List ℕ) → Some (passed + 1) ≡ option_map (λ j. passed + j) (steps_to b (b ∷ xs))
found b passed xs = let h : (b == b) ≡ true = eq-eqb b b refl in rw h refl

pub left_found : (classes : List Class) (base passed k n b : ℕ) → Some b ≡ base_of classes n → b ≡ base → Some (passed + 1) ≡ left classes base passed (suc k) n
left_found classes base passed k n b e h = found base passed (chain k classes base)
    ∙ ap (λ (z : ℕ). option_map (λ j. passed + j) (steps_to base (z ∷ chain k classes z))) (sym h)
    ∙ ap (λ (o : Option ℕ). option_map (λ j. passed + j) (steps_to base (first_and o (chain k classes)))) e

shifted : (passed : ℕ) (o : Option ℕ) → option_map (λ j. passed + 1 + j) o ≡ option_map (λ j. passed + j) (option_map suc o)
shifted passed None = refl
shifted passed (Some x) = let h : passed + 1 + x ≡ passed + suc x = omega arith in ap Some h

passed_by : (base passed b : ℕ) (xs : List ℕ) → (b ≡ base → ⊥)
    → option_map (λ j. passed + j) (steps_to base (b ∷ xs)) ≡ option_map (λ j. passed + 1 + j) (steps_to base xs)
passed_by base passed b xs h = let e : (b == base) ≡ false = ne_eqb b base h in rw e (sym (shifted passed (steps_to base xs)))

pub left_next : (classes : List Class) (base passed k n b : ℕ) → Some b ≡ base_of classes n → (b ≡ base → ⊥)
    → left classes base passed (suc k) n ≡ left classes base (passed + 1) k b
left_next classes base passed k n b e h = sym (ap (λ (o : Option ℕ). option_map (λ j. passed + j) (steps_to base (first_and o (chain k classes)))) e)
    ∙ passed_by base passed b (chain k classes b) h
