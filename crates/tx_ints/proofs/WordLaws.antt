-- The laws of words.
use Rattle.std.proofs.Common.{◌≡◌, ◌≢◌, ℕ, ◌^◌, ◌<◌, ℤ, pos, ap, sym, ◌∙◌, refl, arith, subst, if◌then◌else◌}
use Rattle.std.specs.Prelude.{Bool as Test, unsigned_abs}
use Rattle.std.proofs.lemmas.Int.{ints}
use Rattle.std.proofs.lemmas.Bool.Decides.{Decides-int_eq}
use Rattle.std.specs.Int.{int_rem_euclid}
use Rattle.std.specs.Ordering.{int_eq}
use Rattle.tx_ints.specs.declared.kinds.IntKind.{IntKind}
use Rattle.tx_ints.specs.declared.kinds.IntKind.TheVariants.{Bool, Char, SChar, UChar, Short, UShort, Int, UInt, Long, ULong, LLong, ULLong}
use Rattle.tx_ints.specs.Integers.{modulus, reduced, convert_of}
use Rattle.tx_ints.specs.Words.{word_of, value_of_word}
use Rattle.tx_ints.specs.Laws.{WordBelow, WordBack, WordThere, WordConverts}
use Rattle.tx_ints.proofs.Modulo.{Turns, rem_from, Remainder, remainder, turns_rest, turns_back, reduced_turns}
use Rattle.tx_ints.proofs.ConversionLaws.{converts, convert_keeps}
use Rattle.tx_ints.proofs.Masks.{finer}
use Rattle.tx_ints.proofs.Values.{reduced_same, bounded, Bounded, test_same}

-- a word is the remainder by 2^64
pub word_is : (v : ℤ) → pos (word_of v) ≡ int_rem_euclid v (pos (2 ^ 64))
unfolding word_of
word_is v =
    let r : Remainder (2 ^ 64) v = remainder (2 ^ 64) v (omega arith) in
    ap (λ (z : ℤ). pos (unsigned_abs z)) r.is ∙ sym r.is

pub word_below : WordBelow
unfolding word_of
word_below v =
    let r : Remainder (2 ^ 64) v = remainder (2 ^ 64) v (omega arith) in
    omega (arith, ap unsigned_abs r.is, r.below)

word_turns : (v : ℤ) → Turns (2 ^ 64) (pos (word_of v)) v
word_turns v =
    let t : Turns (2 ^ 64) v (int_rem_euclid v (pos (2 ^ 64))) = turns_rest (2 ^ 64) v (omega arith) in
    record { up = t.down; down = t.up; meet = omega (arith, ints, t.meet, word_is v) }

finer_word : (k : IntKind) (y z : ℤ) → Turns (2 ^ 64) y z → Turns (modulus k) y z
finer_word Bool y z t = finer (2 ^ 63) 2 y z t
finer_word Char y z t = finer (2 ^ 56) (2 ^ 8) y z t
finer_word SChar y z t = finer (2 ^ 56) (2 ^ 8) y z t
finer_word UChar y z t = finer (2 ^ 56) (2 ^ 8) y z t
finer_word Short y z t = finer (2 ^ 48) (2 ^ 16) y z t
finer_word UShort y z t = finer (2 ^ 48) (2 ^ 16) y z t
finer_word Int y z t = finer (2 ^ 32) (2 ^ 32) y z t
finer_word UInt y z t = finer (2 ^ 32) (2 ^ 32) y z t
finer_word Long y z t = finer 1 (2 ^ 64) y z t
finer_word ULong y z t = finer 1 (2 ^ 64) y z t
finer_word LLong y z t = finer 1 (2 ^ 64) y z t
finer_word ULLong y z t = finer 1 (2 ^ 64) y z t

-- in a kind that is not bool a word converts as its number does
reduces_as_word : (k : IntKind) (v : ℤ) → k ≢ Bool → convert_of k (pos (word_of v)) ≡ convert_of k v
reduces_as_word k v h =
    converts k (pos (word_of v)) h ∙ reduced_same k (pos (word_of v)) v (finer_word k (pos (word_of v)) v (word_turns v)) ∙ sym (converts k v h)

-- of the numbers of all kinds, 0 alone has the word 0
word_zero : (v : ℤ) → Bounded v → pos (word_of v) ≡ pos 0 → v ≡ pos 0
word_zero v b e = let t : Turns (2 ^ 64) (pos (word_of v)) v = word_turns v in omega (arith, ints, t.meet, e, b.low, b.high)

zero_word : word_of (pos 0) ≡ 0
unfolding word_of
zero_word = refl

same_zero : (v : ℤ) → Bounded v → int_eq (pos (word_of v)) (pos 0) ≡ int_eq v (pos 0)
same_zero v b =
    let words = Decides-int_eq (pos (word_of v)) (pos 0) in
    let numbers = Decides-int_eq v (pos 0) in
    test_same (int_eq (pos (word_of v)) (pos 0)) (int_eq v (pos 0)) (λ h. numbers.1 (word_zero v b (words.0 h)))
    (λ h. words.1 (ap (λ (z : ℤ). pos (word_of z)) (numbers.0 h) ∙ ap pos zero_word))

truth_as_word : (v : ℤ) → Bounded v → convert_of Bool (pos (word_of v)) ≡ convert_of Bool v
truth_as_word v b = ap (λ (t : Test). if t then pos 0 else pos 1) (same_zero v b)

pub word_converts : WordConverts
word_converts j Bool v h = truth_as_word v (bounded j v h)
word_converts j Char v h = reduces_as_word Char v (λ e. cc)
word_converts j SChar v h = reduces_as_word SChar v (λ e. cc)
word_converts j UChar v h = reduces_as_word UChar v (λ e. cc)
word_converts j Short v h = reduces_as_word Short v (λ e. cc)
word_converts j UShort v h = reduces_as_word UShort v (λ e. cc)
word_converts j Int v h = reduces_as_word Int v (λ e. cc)
word_converts j UInt v h = reduces_as_word UInt v (λ e. cc)
word_converts j Long v h = reduces_as_word Long v (λ e. cc)
word_converts j ULong v h = reduces_as_word ULong v (λ e. cc)
word_converts j LLong v h = reduces_as_word LLong v (λ e. cc)
word_converts j ULLong v h = reduces_as_word ULLong v (λ e. cc)

pub word_back : WordBack
word_back k v h = word_converts k k v h ∙ convert_keeps k v h

-- a word is its own remainder
word_from : (v : ℤ) (word : ℕ) → word < 2 ^ 64 → Turns (2 ^ 64) v (pos word) → word_of v ≡ word
unfolding word_of
word_from v word h t = ap unsigned_abs (rem_from (2 ^ 64) v word h t)

there : (k : IntKind) (word : ℕ) → k ≢ Bool → modulus k ≡ 2 ^ 64 → word < 2 ^ 64 → word_of (value_of_word k word) ≡ word
there k word h e below =
    let t : Turns (modulus k) (pos word) (reduced k (pos word)) = reduced_turns k (pos word) in
    let back : Turns (2 ^ 64) (reduced k (pos word)) (pos word) =
    subst (λ (m : ℕ). Turns m (reduced k (pos word)) (pos word)) e (turns_back (modulus k) (pos word) (reduced k (pos word)) t) in
    ap word_of (converts k (pos word) h) ∙ word_from (reduced k (pos word)) word below back

pub word_there : WordThere
word_there Bool word e below = absurd (omega arith)
word_there Char word e below = absurd (omega arith)
word_there SChar word e below = absurd (omega arith)
word_there UChar word e below = absurd (omega arith)
word_there Short word e below = absurd (omega arith)
word_there UShort word e below = absurd (omega arith)
word_there Int word e below = absurd (omega arith)
word_there UInt word e below = absurd (omega arith)
word_there Long word e below = there Long word (λ h. cc) refl below
word_there ULong word e below = there ULong word (λ h. cc) refl below
word_there LLong word e below = there LLong word (λ h. cc) refl below
word_there ULLong word e below = there ULLong word (λ h. cc) refl below
