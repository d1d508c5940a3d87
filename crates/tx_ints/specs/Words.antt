-- A word is a number below 2^64. It stands for the number of a kind that is equal to it modulo 2^64.
use Rattle.std.specs.Prelude.{ℕ, ◌^◌, ℤ, pos, unsigned_abs}
use Rattle.std.specs.Int.{int_rem_euclid}
use Rattle.tx_ints.specs.declared.kinds.IntKind.{IntKind}
use Rattle.tx_ints.specs.Integers.{convert_of}

-- a number modulo 2^64
unfoldable pub word_of : ℤ → ℕ
word_of v = unsigned_abs (int_rem_euclid v (pos (2 ^ 64)))

-- what a word stands for in a kind
abbrev pub value_of_word : IntKind → ℕ → ℤ
value_of_word k word = convert_of k (pos word)
