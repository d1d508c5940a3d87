-- Words of kinds, and values of literals.
use Rattle.std.proofs.Common.{◌≡◌, refl, sym, ap, ◌∙◌, ℕ, ◌^◌, ◌<◌, ◌≤◌, pos, Bool, true, false, nat_le, List, [], ◌∷◌, Some, cond}
use Rattle.std.proofs.Common.{arith, eq-eqb}
use Rattle.std.proofs.Math.Nat.{mod-eq_of_lt}
use Rattle.std.proofs.lemmas.Bool.{leb-true}
use Rattle.std.proofs.lemmas.Int.{ints}
use Rattle.std.specs.List.{find}
use Rattle.tx_ints.specs.declared.kinds.IntKind.{IntKind}
use Rattle.tx_ints.specs.declared.kinds.IntKind.TheVariants.{Bool as BoolKind, Char, SChar, UChar, Short, UShort, Int, UInt, Long, ULong, LLong, ULLong}
use Rattle.tx_ints.specs.Integers.{InRange}
use Rattle.tx_ints.specs.Words.{word_of, value_of_word}
use Rattle.tx_ints.proofs.ConversionLaws.{converts_into_range, convert_keeps}
use Rattle.tx_ints.proofs.WordLaws.{word_is, word_back}
use Rattle.cpp_lex.specs.Ints.{int_largest, int_type_of}
use Rattle.elab_rules.specs.cpp_tree.Typing.{is_word_of}
use Rattle.elab_rules.specs.Constants.{word_in}

-- a word that was taken into a kind is one of it
pub word_in_kind : (k : IntKind) (w : ℕ) → is_word_of k (word_in k w) ≡ true
word_in_kind k w = eq-eqb (word_of (value_of_word k (word_in k w))) (word_in k w)
    (ap word_of (word_back k (value_of_word k w) (converts_into_range k (pos w))))

-- a number of a kind is its own word
pos_is : (a b : ℕ) → pos a ≡ pos b → a ≡ b
pos_is a b h = omega (arith, ints, h)

small : (k : IntKind) (n : ℕ) → n ≤ int_largest k → n < 2 ^ 64
small BoolKind n h = omega (arith, h)
small Char n h = omega (arith, h)
small SChar n h = omega (arith, h)
small UChar n h = omega (arith, h)
small Short n h = omega (arith, h)
small UShort n h = omega (arith, h)
small Int n h = omega (arith, h)
small UInt n h = omega (arith, h)
small Long n h = omega (arith, h)
small ULong n h = omega (arith, h)
small LLong n h = omega (arith, h)
small ULLong n h = omega (arith, h)

own_range : (k : IntKind) (n : ℕ) → n ≤ int_largest k → InRange k (pos n)
own_range BoolKind n h = record { from_least = omega (arith, ints, h); to_greatest = omega (arith, ints, h) }
own_range Char n h = record { from_least = omega (arith, ints, h); to_greatest = omega (arith, ints, h) }
own_range SChar n h = record { from_least = omega (arith, ints, h); to_greatest = omega (arith, ints, h) }
own_range UChar n h = record { from_least = omega (arith, ints, h); to_greatest = omega (arith, ints, h) }
own_range Short n h = record { from_least = omega (arith, ints, h); to_greatest = omega (arith, ints, h) }
own_range UShort n h = record { from_least = omega (arith, ints, h); to_greatest = omega (arith, ints, h) }
own_range Int n h = record { from_least = omega (arith, ints, h); to_greatest = omega (arith, ints, h) }
own_range UInt n h = record { from_least = omega (arith, ints, h); to_greatest = omega (arith, ints, h) }
own_range Long n h = record { from_least = omega (arith, ints, h); to_greatest = omega (arith, ints, h) }
own_range ULong n h = record { from_least = omega (arith, ints, h); to_greatest = omega (arith, ints, h) }
own_range LLong n h = record { from_least = omega (arith, ints, h); to_greatest = omega (arith, ints, h) }
own_range ULLong n h = record { from_least = omega (arith, ints, h); to_greatest = omega (arith, ints, h) }

number_word : (n : ℕ) → n < 2 ^ 64 → word_of (pos n) ≡ n
number_word n h = pos_is (word_of (pos n)) n (word_is (pos n) ∙ ap pos (mod-eq_of_lt h))

pub own_word : (k : IntKind) (n : ℕ) → nat_le n (int_largest k) ≡ true → is_word_of k n ≡ true
own_word k n h = let b : n ≤ int_largest k = leb-true n (int_largest k) h in
    eq-eqb (word_of (value_of_word k n)) n (ap word_of (convert_keeps k (pos n) (own_range k n b)) ∙ number_word n (small k n b))

-- the type of a literal holds its value (C++14 2.14.2)
found_passes : {A : Type 0} (test : A → Bool) (xs : List A) (x : A) → find test xs ≡ Some x → test x ≡ true
found_passes {A} test [] x h = absurd cc
found_passes {A} test (y ∷ ys) x h = by (λ e. found_passes test ys x e) (test y) refl h
  where
    by : (find test ys ≡ Some x → test x ≡ true) → (b : Bool) → test y ≡ b → cond b (Some y) (find test ys) ≡ Some x → test x ≡ true
    by rest true q e = let i : y ≡ x = cc in ap test (sym i) ∙ q
    by rest false q e = rest e

pub literal_word : (bytes : List ℕ) (n : ℕ) (k : IntKind) → int_type_of bytes n ≡ Some k → is_word_of k n ≡ true
unfolding int_type_of
literal_word bytes n k h = own_word k n (found_passes (λ (kind : IntKind). nat_le n (int_largest kind)) _ k h)
