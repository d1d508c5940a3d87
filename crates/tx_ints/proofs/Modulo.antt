-- Numbers that differ by a multiple, and the one of them in a range.
use Rattle.std.proofs.Common.{◌≡◌, ℕ, ◌+◌, ◌-◌, ◌*◌, ◌/◌, ◌%◌, ◌<◌, suc, ℤ, pos, negsuc, ◌+ℤ◌, ◌-ℤ◌, ◌≤ℤ◌, ◌<ℤ◌, ap, sym, ◌∙◌, refl, arith}
use Rattle.std.proofs.lemmas.Int.{ints, int_rem_euclid_is}
use Rattle.std.proofs.lemmas.Nat.{mod-mul-add, div-add-mod', mod_below}
use Rattle.std.specs.Int.{int_rem_euclid}
use Rattle.tx_ints.specs.declared.kinds.IntKind.{IntKind}
use Rattle.tx_ints.specs.declared.kinds.IntKind.TheVariants.{Bool, Char, SChar, UChar, Short, UShort, Int, UInt, Long, ULong, LLong, ULLong}
use Rattle.tx_ints.specs.Integers.{least, greatest, modulus, InRange, reduced, EqualModulo}

-- y and z differ by a multiple of m
pub record Turns (m : ℕ) (y z : ℤ) : Type 0 where
  pub up : ℕ
  pub down : ℕ
  pub meet : y +ℤ pos (up * m) ≡ z +ℤ pos (down * m)

-- a remainder is a number below the divisor
pub record Remainder (m : ℕ) (z : ℤ) : Type 0 where
  pub rest : ℕ
  pub below : rest < m
  pub is : int_rem_euclid z (pos m) ≡ pos rest

pub remainder : (m : ℕ) (z : ℤ) → 0 < m → Remainder m z
remainder m (pos a) h = record { rest = a % m; below = mod_below a m h; is = refl }
remainder m (negsuc a) h = record { rest = m - 1 - a % m; below = omega arith; is = refl }

pub turns_rest : (m : ℕ) (z : ℤ) → 0 < m → Turns m z (int_rem_euclid z (pos m))
turns_rest m (pos a) h = record { up = 0; down = a / m; meet = omega (arith, ints, div-add-mod' a m) }
turns_rest m (negsuc a) h =
    let below : a % m < m = mod_below a m h in
    let split : a / m * m + a % m ≡ a = div-add-mod' a m in
    record { up = suc (a / m); down = 0; meet = omega (arith, ints) }

pub turns_then : (m : ℕ) (x y z : ℤ) → Turns m x y → Turns m y z → Turns m x z
turns_then m x y z s t = record { up = s.up + t.up; down = s.down + t.down; meet = omega (arith, ints, s.meet, t.meet) }

pub turns_back : (m : ℕ) (y z : ℤ) → Turns m y z → Turns m z y
turns_back m y z t = record { up = t.down; down = t.up; meet = omega (arith, ints, t.meet) }

pub rem_from : (m : ℕ) (z : ℤ) (r : ℕ) → r < m → Turns m z (pos r) → int_rem_euclid z (pos m) ≡ pos r
rem_from m z r below t =
    let e : z +ℤ pos (t.up * m) ≡ pos (t.down * m + r) = omega (arith, ints, t.meet) in
    int_rem_euclid_is z (pos m) m t.up (t.down * m + r) (omega arith) refl e ∙ ap pos (mod-mul-add t.down m r below)

pub rem_same : (m : ℕ) (y z : ℤ) → 0 < m → Turns m y z → EqualModulo m y z
rem_same m y z h t =
    let r : Remainder m z = remainder m z h in
    let s : Turns m z (int_rem_euclid z (pos m)) = turns_rest m z h in
    let there : Turns m z (pos r.rest) = record { up = s.up; down = s.down; meet = s.meet ∙ ap (λ (t : ℤ). t +ℤ pos (s.down * m)) r.is } in
    rem_from m y r.rest r.below (turns_then m y z (pos r.rest) t there) ∙ sym r.is

pub turns_same : (m : ℕ) (y z : ℤ) → 0 < m → EqualModulo m y z → Turns m y z
turns_same m y z h e =
    let s : Turns m y (int_rem_euclid y (pos m)) = turns_rest m y h in
    let there : Turns m y (int_rem_euclid z (pos m)) = record { up = s.up; down = s.down; meet = s.meet ∙ ap (λ (t : ℤ). t +ℤ pos (s.down * m)) e } in
    turns_then m y (int_rem_euclid z (pos m)) z there (turns_back m z (int_rem_euclid z (pos m)) (turns_rest m z h))

-- r lies that far above l
record Above (l r : ℤ) : Type 0 where
  pub by : ℕ
  pub is : r ≡ l +ℤ pos by

above : (l r : ℤ) → l ≤ℤ r → Above l r
above (pos a) (pos b) h = record { by = b - a; is = omega (arith, ints) }
above (pos a) (negsuc b) h = absurd (omega (arith, ints))
above (negsuc a) (pos b) h = record { by = a + 1 + b; is = omega (arith, ints) }
above (negsuc a) (negsuc b) h = record { by = a - b; is = omega (arith, ints) }

-- the number from l on that differs from z by a multiple
from_least : (m : ℕ) (l z r : ℤ) → 0 < m → l ≤ℤ r → r ≤ℤ (l +ℤ pos (m - 1)) → Turns m z r → l +ℤ int_rem_euclid (z -ℤ l) (pos m) ≡ r
from_least m l z r h low high t =
    let d : Above l r = above l r low in
    let turns : Turns m (z -ℤ l) (pos d.by) = record { up = t.up; down = t.down; meet = omega (arith, ints, t.meet, d.is) } in
    ap (λ (n : ℤ). l +ℤ n) (rem_from m (z -ℤ l) d.by (omega (arith, ints, d.is)) turns) ∙ sym d.is

turns_from_least : (m : ℕ) (l z : ℤ) → 0 < m → Turns m z (l +ℤ int_rem_euclid (z -ℤ l) (pos m))
turns_from_least m l z h =
    let t : Turns m (z -ℤ l) (int_rem_euclid (z -ℤ l) (pos m)) = turns_rest m (z -ℤ l) h in
    record { up = t.up; down = t.down; meet = omega (arith, ints, t.meet) }

-- ---- the kinds' numbers

pub many : (k : IntKind) → 0 < modulus k
many Bool = omega arith
many Char = omega arith
many SChar = omega arith
many UChar = omega arith
many Short = omega arith
many UShort = omega arith
many Int = omega arith
many UInt = omega arith
many Long = omega arith
many ULong = omega arith
many LLong = omega arith
many ULLong = omega arith

-- the kind's number that differs from z by a multiple is what z is reduced to
pub reduced_is : (k : IntKind) (z r : ℤ) → InRange k r → Turns (modulus k) z r → reduced k z ≡ r
unfolding reduced
reduced_is k z r within t = from_least (modulus k) (least k) z r (many k) within.from_least within.to_greatest t

pub reduced_turns : (k : IntKind) (z : ℤ) → Turns (modulus k) z (reduced k z)
unfolding reduced
reduced_turns k z = turns_from_least (modulus k) (least k) z (many k)

within_least : (m : ℕ) (l z : ℤ) → 0 < m → (l ≤ℤ (l +ℤ int_rem_euclid z (pos m))) × ((l +ℤ int_rem_euclid z (pos m)) ≤ℤ (l +ℤ pos (m - 1)))
within_least m l z h =
    let r : Remainder m z = remainder m z h in
    (omega (arith, ints, r.is, r.below), omega (arith, ints, r.is, r.below))

pub reduced_in : (k : IntKind) (z : ℤ) → InRange k (reduced k z)
unfolding reduced
reduced_in k z =
    let h = within_least (modulus k) (least k) (z -ℤ least k) (many k) in
    record { from_least = h.0; to_greatest = h.1 }

-- 0 is a number of each kind
pub zero_least : (k : IntKind) → least k ≤ℤ pos 0
zero_least Bool = omega (arith, ints)
zero_least Char = omega (arith, ints)
zero_least SChar = omega (arith, ints)
zero_least UChar = omega (arith, ints)
zero_least Short = omega (arith, ints)
zero_least UShort = omega (arith, ints)
zero_least Int = omega (arith, ints)
zero_least UInt = omega (arith, ints)
zero_least Long = omega (arith, ints)
zero_least ULong = omega (arith, ints)
zero_least LLong = omega (arith, ints)
zero_least ULLong = omega (arith, ints)

pub one_greatest : (k : IntKind) → pos 1 ≤ℤ greatest k
one_greatest Bool = omega (arith, ints)
one_greatest Char = omega (arith, ints)
one_greatest SChar = omega (arith, ints)
one_greatest UChar = omega (arith, ints)
one_greatest Short = omega (arith, ints)
one_greatest UShort = omega (arith, ints)
one_greatest Int = omega (arith, ints)
one_greatest UInt = omega (arith, ints)
one_greatest Long = omega (arith, ints)
one_greatest ULong = omega (arith, ints)
one_greatest LLong = omega (arith, ints)
one_greatest ULLong = omega (arith, ints)

down_range : (m : ℕ) (l low : ℤ) → (l +ℤ pos (m - 1)) <ℤ low → low <ℤ pos m → pos 1 ≤ℤ (l +ℤ pos (m - 1)) → (l ≤ℤ (low -ℤ pos m))
    × ((low -ℤ pos m) ≤ℤ (l +ℤ pos (m - 1)))
down_range m l low over below zero_in = (omega (arith, ints), omega (arith, ints))

-- the remainder is the kind's number, or else is one turn above it
pub remainder_down : (k : IntKind) (z low : ℤ) → low ≡ int_rem_euclid z (pos (modulus k)) → greatest k <ℤ low → reduced k z ≡ low -ℤ pos (modulus k)
remainder_down k z low e over =
    let r : Remainder (modulus k) z = remainder (modulus k) z (many k) in
    let t : Turns (modulus k) z (int_rem_euclid z (pos (modulus k))) = turns_rest (modulus k) z (many k) in
    let h = down_range (modulus k) (least k) low over (omega (arith, ints, r.is, e, r.below)) (one_greatest k) in
    reduced_is k z (low -ℤ pos (modulus k)) (record { from_least = h.0; to_greatest = h.1 })
    (record { up = t.up; down = t.down + 1; meet = omega (arith, ints, t.meet, e) })

pub remainder_kept : (k : IntKind) (z low : ℤ) → low ≡ int_rem_euclid z (pos (modulus k)) → low ≤ℤ greatest k → reduced k z ≡ low
remainder_kept k z low e under =
    let r : Remainder (modulus k) z = remainder (modulus k) z (many k) in
    let t : Turns (modulus k) z (int_rem_euclid z (pos (modulus k))) = turns_rest (modulus k) z (many k) in
    reduced_is k z low (record { from_least = omega (arith, ints, zero_least k, r.is, e); to_greatest = under })
    (record { up = t.up; down = t.down; meet = omega (arith, ints, t.meet, e) })
