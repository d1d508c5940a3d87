-- Numbers below 2 ^ 64 as sets of thread numbers.
use Rattle.std.specs.Prelude.{ℕ, ◌==◌, ◌^◌, Bool, not, bit_and}

-- whether bit u of the number is set
abbrev pub has_bit : ℕ → ℕ → Bool
has_bit n u = not (bit_and n (2 ^ u) == 0)
