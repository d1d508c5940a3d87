-- Terms: each stands for a word, and sums with numbers.
use Rattle.std.proofs.Common.{ℕ, zero, ℤ, ◌≡◌, ◌+◌, ◌-◌, ◌*◌, ◌%◌, ◌^◌, ◌<◌, ◌==◌, nat_lt, Bool, true, false, cond, refl, ap, sym, ◌∙◌, Result, Ok, Err, arith}
use Rattle.std.proofs.Math.Nat.{mod-lt, add-mod-mod, mod-add-mod, mod-eq_of_lt}
use Rattle.std.proofs.Math.Pow.{mod-mod-pow}
use Rattle.std.proofs.lemmas.Nat.{pow_pos, mul-mod_second}
use Rattle.std.proofs.lemmas.Bool.{ltb-true, eqb-true}
use Rattle.cpp_tree.specs.tx_ints.declared.kinds.IntKind.{IntKind}
use Rattle.cpp_tree.specs.tx_ints.declared.kinds.IntKind.TheVariants.{Bool as BoolKind, Char, SChar, UChar, Short, UShort, Int, UInt, Long, ULong, LLong}
use Rattle.cpp_tree.specs.tx_ints.declared.kinds.IntKind.TheVariants.{ULLong}
use Rattle.cpp_tree.specs.tx_ints.declared.kinds.ArithTrap.{ArithTrap}
use Rattle.tx_ints.proofs.WordLaws.{word_below}
use Rattle.cpp_tree.specs.cpp_layout.Layout.{function_address}
use Rattle.src_mean.specs.Linked.{Func, Program}
use Rattle.src_mean.specs.Source.{plus, stored_bytes}
use Rattle.symbolic_source.specs.Terms.{Term, number, variable, local, global, function, table, slot_function, sum, product, before, low_byte, converted_to}
use Rattle.symbolic_source.specs.Terms.{result, field, Values, word_or_zero, number_found, eval, plus_number, one_less}
use Rattle.symbolic_source.specs.Steps.{element_at}
use Rattle.symbolic_source.specs.Small.{AreWords}

word_or_zero_below : (r : Result ℤ ArithTrap) → word_or_zero r < 2 ^ 64
word_or_zero_below (Ok v) = word_below v
word_or_zero_below (Err trap) = omega arith

less_one : (n : ℕ) → n < 2 ^ 64 → n - 1 < 2 ^ 64
less_one n h = omega (arith, h)

pub plus_below : (a b : ℕ) → plus a b < 2 ^ 64
unfolding plus
plus_below a b = mod-lt (a + b) (pow_pos 64)

module _ (p : Program) (f : Func) (x : Values) where
  sum_number : (a n : ℕ) → plus a (n % 2 ^ 64) ≡ plus a n
  unfolding plus
  sum_number a n = add-mod-mod a n (2 ^ 64)

  further : (b o n : ℕ) → (b + (o + n)) % 2 ^ 64 ≡ ((b + o) % 2 ^ 64 + n) % 2 ^ 64
  further b o n = ap (λ z. z % 2 ^ 64) (turned b o n) ∙ sym (mod-add-mod (b + o) (2 ^ 64) n)
    where
      turned : (b o n : ℕ) → b + (o + n) ≡ b + o + n
      turned b o n = omega arith

  numbers : (a m n : ℕ) → plus a ((m + n) % 2 ^ 64) ≡ plus (plus a (m % 2 ^ 64)) n
  unfolding plus
  numbers a m n = add-mod-mod a (m + n) (2 ^ 64) ∙ (ap (λ z. z % 2 ^ 64) (first a m n) ∙
      (sym (add-mod-mod (a + n) m (2 ^ 64)) ∙ (ap (λ z. z % 2 ^ 64) (second a (m % 2 ^ 64) n) ∙ sym (mod-add-mod (a + m % 2 ^ 64) (2 ^ 64) n))))
    where
      first : (a m n : ℕ) → a + (m + n) ≡ a + n + m
      first a m n = omega arith

      second : (a m n : ℕ) → a + n + m ≡ a + m + n
      second a m n = omega arith

  pub one_less_is : (t : Term) → eval p f x (one_less t) ≡ eval p f x t - 1
  one_less_is (number n) = by_test (nat_lt n (2 ^ 64)) refl
    where
      by_test : (b : Bool) → nat_lt n (2 ^ 64) ≡ b → eval p f x (cond b (number (n - 1)) (before (number n))) ≡ n % 2 ^ 64 - 1
      by_test true e = short n (ltb-true n (2 ^ 64) e)
        where
          short : (n : ℕ) → n < 2 ^ 64 → (n - 1) % 2 ^ 64 ≡ n % 2 ^ 64 - 1
          short n h = omega (arith, h)
      by_test false e = refl
  one_less_is a = refl

  pub word_kept : (n : ℕ) → nat_lt n (2 ^ 64) ≡ true → n % 2 ^ 64 ≡ n
  word_kept n h = mod-eq_of_lt (ltb-true n (2 ^ 64) h)

  pub stored_kept : (kind : IntKind) (w : ℕ) → stored_bytes kind (w % 2 ^ 64) ≡ stored_bytes kind w
  unfolding stored_bytes
  stored_kept BoolKind w = mod-mod-pow w 56 8
  stored_kept Char w = mod-mod-pow w 56 8
  stored_kept SChar w = mod-mod-pow w 56 8
  stored_kept UChar w = mod-mod-pow w 56 8
  stored_kept Short w = mod-mod-pow w 48 16
  stored_kept UShort w = mod-mod-pow w 48 16
  stored_kept Int w = mod-mod-pow w 32 32
  stored_kept UInt w = mod-mod-pow w 32 32
  stored_kept Long w = mod-mod-pow w 0 64
  stored_kept ULong w = mod-mod-pow w 0 64
  stored_kept LLong w = mod-mod-pow w 0 64
  stored_kept ULLong w = mod-mod-pow w 0 64

module _ (p : Program) (f : Func) (x : Values) (bounded : AreWords x) where
  pub term_below : (t : Term) → eval p f x t < 2 ^ 64
  term_below (number n) = mod-lt n (pow_pos 64)
  term_below (variable n) = bounded n
  term_below (local offset) = plus_below x.base offset
  term_below (global n) = mod-lt (p.global f.unit n) (pow_pos 64)
  term_below (function n) = mod-lt (function_address (p.number f.unit n)) (pow_pos 64)
  term_below (table c) = mod-lt (p.table c) (pow_pos 64)
  term_below (slot_function class slot a) = mod-lt (function_address (number_found (p.slot (eval p f x a) class slot))) (pow_pos 64)
  term_below (sum a b) = plus_below (eval p f x a) (eval p f x b)
  term_below (product a b) = mod-lt (eval p f x a * eval p f x b) (pow_pos 64)
  term_below (before a) = less_one (eval p f x a) (term_below a)
  term_below (low_byte a) = short (eval p f x a)
    where
      short : (n : ℕ) → n % 256 < 2 ^ 64
      short n = omega arith
  term_below (converted_to kind a) = word_below _
  term_below (result op kind a b) = word_or_zero_below _
  term_below (field e offset size) = mod-lt _ (pow_pos 64)

  pub plus_zero : (t : Term) → plus (eval p f x t) 0 ≡ eval p f x t
  unfolding plus
  plus_zero t = ap (λ z. z % 2 ^ 64) (nothing (eval p f x t)) ∙ mod-eq_of_lt (term_below t)
    where
      nothing : (n : ℕ) → n + 0 ≡ n
      nothing n = omega arith

  offset_is : (b : Bool) (a : Term) (n : ℕ) → (n == 0) ≡ b → eval p f x (cond b a (sum a (number n))) ≡ plus (eval p f x a) n
  unfolding plus
  offset_is true a n e = sym (plus_zero a) ∙ ap (λ z. plus (eval p f x a) z) (sym (eqb-true n 0 e))
  offset_is false a n e = sum_number p f x (eval p f x a) n

  pub plus_number_is : (t : Term) (n : ℕ) → eval p f x (plus_number t n) ≡ plus (eval p f x t) n
  unfolding plus
  plus_number_is (number m) n = sym (mod-add-mod m (2 ^ 64) n)
  plus_number_is (local offset) n = further p f x x.base offset n
  plus_number_is (sum a (number m)) n = numbers p f x (eval p f x a) m n
  plus_number_is a n = offset_is (n == 0) a n refl

  element_word : (a m stride : ℕ) → plus a ((m * (stride % 2 ^ 64)) % 2 ^ 64) ≡ plus a (m * stride)
  unfolding plus
  element_word a m stride = ap (λ z. (a + z) % 2 ^ 64) (mul-mod_second m stride (2 ^ 64)) ∙ add-mod-mod a (m * stride) (2 ^ 64)

  pub element_is : (address n : Term) (stride : ℕ) → eval p f x (element_at address n stride) ≡ plus (eval p f x address) (eval p f x n * stride)
  element_is address (number zero) stride = sym (plus_zero address) ∙ ap (λ z. plus (eval p f x address) z) (none stride)
    where
      none : (s : ℕ) → 0 ≡ 0 * s
      none s = omega arith
  element_is address n stride = element_word (eval p f x address) (eval p f x n) stride
