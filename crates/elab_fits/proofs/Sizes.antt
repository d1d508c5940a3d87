-- Sizes of objects are words of the kinds in which they are counted.
use Rattle.std.proofs.Common.{◌≡◌, ap, ◌∙◌, ℕ, ◌+◌, ◌^◌, ◌<◌, ◌≤◌, ℤ, pos, ◌+ℤ◌, ◌-ℤ◌, true, arith, eq-eqb}
use Rattle.std.proofs.Math.Nat.{mod-eq_of_lt}
use Rattle.std.proofs.lemmas.Bool.{leb-true}
use Rattle.std.proofs.lemmas.Int.{ints}
use Rattle.std.specs.Prelude.{nat_le, neg_ℤ, unsigned_abs}
use Rattle.std.specs.Int.{int_rem_euclid}
use Rattle.elab_rules.specs.tx_ints.declared.kinds.IntKind.TheVariants.{Long, ULong}
use Rattle.elab_rules.specs.tx_ints.Integers.{reduced}
use Rattle.elab_rules.specs.tx_ints.Words.{word_of, value_of_word}
use Rattle.elab_rules.specs.cpp_layout.declared.extents.TheConstants.{GREATEST_SIZE}
use Rattle.elab_rules.specs.cpp_tree.Typing.{is_word_of}

rest_is : (n m : ℕ) → n < m → int_rem_euclid (pos n) (pos m) ≡ pos n
rest_is n m h = ap pos (mod-eq_of_lt h)

reduced_unsigned : (n : ℕ) → n < 2 ^ 63 → reduced ULong (pos n) ≡ pos n
unfolding reduced
reduced_unsigned n h =
    let a : (pos n -ℤ pos 0) ≡ pos n = omega (arith, ints) in
    let b : (pos 0 +ℤ pos n) ≡ pos n = omega (arith, ints) in
    let c : n < 2 ^ 64 = omega (arith, h) in
    ap (λ (z : ℤ). pos 0 +ℤ int_rem_euclid z (pos (2 ^ 64))) a ∙ ap (λ (z : ℤ). pos 0 +ℤ z) (rest_is n (2 ^ 64) c) ∙ b

reduced_signed : (n : ℕ) → n < 2 ^ 63 → reduced Long (pos n) ≡ pos n
unfolding reduced
reduced_signed n h =
    let a : (pos n -ℤ neg_ℤ (pos (2 ^ 63))) ≡ pos (n + 2 ^ 63) = omega (arith, ints) in
    let b : (neg_ℤ (pos (2 ^ 63)) +ℤ pos (n + 2 ^ 63)) ≡ pos n = omega (arith, ints) in
    let c : n + 2 ^ 63 < 2 ^ 64 = omega (arith, h) in
    ap (λ (z : ℤ). neg_ℤ (pos (2 ^ 63)) +ℤ int_rem_euclid z (pos (2 ^ 64))) a
    ∙ ap (λ (z : ℤ). neg_ℤ (pos (2 ^ 63)) +ℤ z) (rest_is (n + 2 ^ 63) (2 ^ 64) c) ∙ b

word_is : (n : ℕ) → n < 2 ^ 63 → word_of (pos n) ≡ n
unfolding word_of
word_is n h = let c : n < 2 ^ 64 = omega (arith, h) in ap unsigned_abs (rest_is n (2 ^ 64) c)

small : (n : ℕ) → nat_le n GREATEST_SIZE ≡ true → n < 2 ^ 63
small n h = let b : n ≤ GREATEST_SIZE = leb-true n GREATEST_SIZE h in omega (arith, b)

pub small_word : (n : ℕ) → nat_le n GREATEST_SIZE ≡ true → is_word_of ULong n ≡ true
small_word n h = eq-eqb (word_of (value_of_word ULong n)) n (ap word_of (reduced_unsigned n (small n h)) ∙ word_is n (small n h))

pub small_long : (n : ℕ) → nat_le n GREATEST_SIZE ≡ true → is_word_of Long n ≡ true
small_long n h = eq-eqb (word_of (value_of_word Long n)) n (ap word_of (reduced_signed n (small n h)) ∙ word_is n (small n h))
