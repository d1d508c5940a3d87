-- Four flags in one number.
use Rattle.std.proofs.Common.{◌≡◌, ◌+◌, ℕ, Bool, true, false, cond, refl}
use Rattle.tx_code.specs.WellFormed.{bit}

abbrev pub packed : Bool → Bool → Bool → Bool → ℕ
packed a b c d = cond a 1 0 + cond b 2 0 + cond c 4 0 + cond d 8 0

pub bit_0 : (a b c d : Bool) → bit 0 (packed a b c d) ≡ a
bit_0 true true true true = refl
bit_0 true true true false = refl
bit_0 true true false true = refl
bit_0 true true false false = refl
bit_0 true false true true = refl
bit_0 true false true false = refl
bit_0 true false false true = refl
bit_0 true false false false = refl
bit_0 false true true true = refl
bit_0 false true true false = refl
bit_0 false true false true = refl
bit_0 false true false false = refl
bit_0 false false true true = refl
bit_0 false false true false = refl
bit_0 false false false true = refl
bit_0 false false false false = refl

pub bit_1 : (a b c d : Bool) → bit 1 (packed a b c d) ≡ b
bit_1 true true true true = refl
bit_1 true true true false = refl
bit_1 true true false true = refl
bit_1 true true false false = refl
bit_1 true false true true = refl
bit_1 true false true false = refl
bit_1 true false false true = refl
bit_1 true false false false = refl
bit_1 false true true true = refl
bit_1 false true true false = refl
bit_1 false true false true = refl
bit_1 false true false false = refl
bit_1 false false true true = refl
bit_1 false false true false = refl
bit_1 false false false true = refl
bit_1 false false false false = refl

pub bit_2 : (a b c d : Bool) → bit 2 (packed a b c d) ≡ c
bit_2 true true true true = refl
bit_2 true true true false = refl
bit_2 true true false true = refl
bit_2 true true false false = refl
bit_2 true false true true = refl
bit_2 true false true false = refl
bit_2 true false false true = refl
bit_2 true false false false = refl
bit_2 false true true true = refl
bit_2 false true true false = refl
bit_2 false true false true = refl
bit_2 false true false false = refl
bit_2 false false true true = refl
bit_2 false false true false = refl
bit_2 false false false true = refl
bit_2 false false false false = refl

pub bit_3 : (a b c d : Bool) → bit 3 (packed a b c d) ≡ d
bit_3 true true true true = refl
bit_3 true true true false = refl
bit_3 true true false true = refl
bit_3 true true false false = refl
bit_3 true false true true = refl
bit_3 true false true false = refl
bit_3 true false false true = refl
bit_3 true false false false = refl
bit_3 false true true true = refl
bit_3 false true true false = refl
bit_3 false true false true = refl
bit_3 false true false false = refl
bit_3 false false true true = refl
bit_3 false false true false = refl
bit_3 false false false true = refl
bit_3 false false false false = refl

-- the number as the code adds it up
pub packed_is : (a b c d : Bool) (p q r s : ℕ) → p ≡ cond a 1 0 → q ≡ cond b 2 0 → r ≡ cond c 4 0 → s ≡ cond d 8 0 → p + q + r + s ≡ packed a b c d
packed_is a b c d p q r s e f g h = rw (e, f, g, h) refl
