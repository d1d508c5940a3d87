-- Whether two words are equal, by the operator.
use Rattle.std.proofs.Common.{ℕ, ◌≡◌, ◌^◌, ◌<◌, ◌==◌, Bool, true, false, cond, refl, ap, sym, ◌∙◌, arith}
use Rattle.std.specs.Ordering.{int_eq}
use Rattle.std.proofs.lemmas.Bool.{eqb-true}
use Rattle.std.proofs.lemmas.Bool.Decides.{Decides-int_eq, Decides-eqb}
use Rattle.cpp_tree.specs.tx_ints.declared.kinds.IntKind.TheVariants.{ULong}
use Rattle.cpp_tree.specs.tx_ints.declared.kinds.BinOp.TheVariants.{Eq}
use Rattle.cpp_tree.specs.tx_ints.Integers.{reduced, apply_of, truth}
use Rattle.cpp_tree.specs.tx_ints.Words.{word_of, value_of_word}
use Rattle.tx_ints.proofs.WordLaws.{word_there}
use Rattle.src_mean.specs.Source.{applied}
use Rattle.symbolic_source.specs.Terms.{word_or_zero}

truth_word : (t : Bool) → word_of (reduced ULong (truth t)) ≡ cond t 1 0
unfolding reduced word_of
truth_word true = refl
truth_word false = refl

is_answer : (a b : ℕ) → word_or_zero (applied Eq ULong a b) ≡ cond (int_eq (value_of_word ULong a) (value_of_word ULong b)) 1 0
unfolding apply_of
is_answer a b = truth_word (int_eq (value_of_word ULong a) (value_of_word ULong b))

word_again : (a : ℕ) → a < 2 ^ 64 → word_of (value_of_word ULong a) ≡ a
word_again a h = word_there ULong a refl h

test_false : (b : Bool) → (b ≡ true → ⊥) → b ≡ false
test_false true h = absurd (h refl)
test_false false h = refl

one_is_none : (n : ℕ) → n ≡ 1 → n ≡ 0 → ⊥
one_is_none n h g = omega (arith, h, g)

pub same_zero : (a b : ℕ) → a < 2 ^ 64 → b < 2 ^ 64 → word_or_zero (applied Eq ULong a b) ≡ 0 → (b == a) ≡ false
same_zero a b h g e = test_false (b == a) (λ i.
    let same : value_of_word ULong a ≡ value_of_word ULong b = ap (λ z. value_of_word ULong z) (sym (eqb-true b a i)) in
    let test = (Decides-int_eq (value_of_word ULong a) (value_of_word ULong b)).1 same in
    one_is_none (word_or_zero (applied Eq ULong a b)) (is_answer a b ∙ ap (λ z. cond z 1 0) test) e)

pub same_not_zero : (a b : ℕ) → a < 2 ^ 64 → b < 2 ^ 64 → (word_or_zero (applied Eq ULong a b) ≡ 0 → ⊥) → (b == a) ≡ true
same_not_zero a b h g e = by_test (int_eq (value_of_word ULong a) (value_of_word ULong b)) refl
  where
    by_test : (t : Bool) → int_eq (value_of_word ULong a) (value_of_word ULong b) ≡ t → (b == a) ≡ true
    by_test true i =
        let same = (Decides-int_eq (value_of_word ULong a) (value_of_word ULong b)).0 i in
        (Decides-eqb b a).1 (sym (sym (word_again a h) ∙ (ap (λ z. word_of z) same ∙ word_again b g)))
    by_test false i = absurd (e (is_answer a b ∙ ap (λ z. cond z 1 0) i))
