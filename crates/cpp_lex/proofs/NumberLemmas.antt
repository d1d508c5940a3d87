-- Numbers grow with each digit.
use Rattle.std.proofs.Common.{List, [], ◌∷◌, ◌≡◌, ℕ, ◌+◌, ◌*◌, ◌<◌, ◌≤◌, Bool, true, false, if◌then◌else◌, length, refl, arith, slice_index, drop, drop-cons}
use Rattle.std.proofs.Common.{add-one}
use Rattle.std.proofs.Math.Nat.{mul-le-mul_left}
use Rattle.std.proofs.Math.ListN.{drop_of_length-le}
use Rattle.std.specs.Prelude.{fold}
use Rattle.cpp_lex.specs.Bytes.{is_digit, digit_value}
use Rattle.cpp_lex.specs.Numbers.{number, with_byte}

one_grows : (is : Bool) (base total value : ℕ) → 1 ≤ base → total ≤ (if is then total * base + value else total)
one_grows true base total value h = omega (arith, mul-le-mul_left total h)
one_grows false base total value h = omega arith

pub fold_grows : (base total : ℕ) (bytes : List ℕ) → 1 ≤ base → total ≤ fold (with_byte base) total bytes
fold_grows base total [] h = omega arith
fold_grows base total (b ∷ bytes) h =
    let one = one_grows (is_digit base b) base total (digit_value b) h in
    let rest = fold_grows base (with_byte base total b) bytes h in
    omega arith

-- the number from the first byte on
pub number_from : (base : ℕ) (bytes : List ℕ) → fold (with_byte base) 0 bytes ≡ number base bytes
unfolding number
number_from base bytes = refl

-- one byte further
pub fold_step : (base total at : ℕ) (bytes : List ℕ) → at < length bytes
    → fold (with_byte base) total (drop at bytes) ≡ fold (with_byte base) (with_byte base total (slice_index bytes at)) (drop (at + 1) bytes)
fold_step base total at bytes h = rw (add-one, drop-cons bytes at 0) refl

-- behind the last byte
pub fold_end : (base total at : ℕ) (bytes : List ℕ) → length bytes ≤ at → fold (with_byte base) total (drop at bytes) ≡ total
fold_end base total at bytes h = rw (drop_of_length-le bytes h) refl
