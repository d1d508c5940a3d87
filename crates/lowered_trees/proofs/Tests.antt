-- Tests that pass, taken apart.
use Rattle.std.proofs.Common.{◌≡◌, ℕ, ◌<◌, ◌^◌, Bool, true, false, not, ◌||◌, Option, Some, None, refl, subst, eqb-true}
use Rattle.cpp_tree.specs.tx_ints.declared.kinds.IntKind.{IntKind}
use Rattle.cpp_tree.specs.tx_ints.Words.{word_of, value_of_word}
use Rattle.tx_ints.proofs.WordLaws.{word_below}
use Rattle.cpp_tree.specs.Typing.{passes, is_word_of}

pub passed : {A : Type 0} (test : A → Bool) (o : Option A) → passes test o ≡ true → (x : A) × (o ≡ Some x) × (test x ≡ true)
passed test None e = absurd cc
passed test (Some x) e = (x, refl, e)

pub is_word : (k : IntKind) (w : ℕ) → is_word_of k w ≡ true → w < 2 ^ 64
is_word k w e = subst (λ (n : ℕ). n < 2 ^ 64) (eqb-true (word_of (value_of_word k w)) w e) (word_below (value_of_word k w))

-- where the first is, the second is not
pub untold : (x v : Bool) → x ≡ true → (not x || not v) ≡ true → v ≡ false
untold true true e f = absurd cc
untold true false e f = refl
untold false v e f = absurd cc

pub or_second : (x y : Bool) → x ≡ false → (x || y) ≡ true → y ≡ true
or_second true y e f = absurd cc
or_second false y e f = f
