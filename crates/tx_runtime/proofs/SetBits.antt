-- The bits of a set of threads, from one on.
use Rattle.std.proofs.Common.{ℕ, zero, suc, ◌≡◌, ◌<◌, ◌≤◌, ◌+◌, ◌-◌, ◌*◌, ◌/◌, ◌%◌, ◌^◌, Bool, true, false, Option, bit_and, sym, ap, ◌∙◌, subst, arith}
use Rattle.std.specs.Int.{bit_at}
use Rattle.std.proofs.Math.Nat.{div-le_self}
use Rattle.std.proofs.lemmas.Nat.{pow_pos, shr-shr}
use Rattle.std.proofs.lemmas.Nat.Bits.{and_pow, bit_at-zero}
use Rattle.own_table.specs.Bits.{has_bit}
use Rattle.own_table.proofs.ThreadSets.{has_bit_from, no_bit_from}
use Rattle.tx_runtime.specs.declared.access.Blockers.{Blockers}
use Rattle.tx_runtime.specs.Blocks.{Sums}
use Rattle.tx_runtime.proofs.ConflictingThreads.{sums_more}

no_bit : (n u : ℕ) → bit_at n u ≡ 0 → has_bit n u ≡ false
no_bit n u h = no_bit_from n u (and_pow n u ∙ (ap (λ z. z * 2 ^ u) h ∙ omega arith))

one_bit : (n u : ℕ) → bit_at n u ≡ 1 → has_bit n u ≡ true
one_bit n u h = has_bit_from n u (λ z.
    let e : bit_and n (2 ^ u) ≡ bit_at n u * 2 ^ u = and_pow n u in
    let f : bit_at n u * 2 ^ u ≡ 2 ^ u = ap (λ y. y * 2 ^ u) h ∙ omega arith in
    let p = pow_pos u in
    absurd (omega (arith, e, f, z, p)))

-- a bit of what is left where the lowest bits are shifted out
shifted : (n k i : ℕ) → bit_at n (k + i) ≡ bit_at (n / 2 ^ k) i
shifted n k i = ap (λ z. z % 2) (sym (shr-shr n k i))

from_place : (n k v : ℕ) → k ≤ v → bit_at n v ≡ bit_at (n / 2 ^ k) (v - k)
from_place n k v h = let e : v ≡ k + (v - k) = omega (arith, h) in ap (bit_at n) e ∙ shifted n k (v - k)

pub none_left : (n k : ℕ) → n / 2 ^ k ≡ 0 → (v : ℕ) → k ≤ v → has_bit n v ≡ false
none_left n k e v h = no_bit n v (from_place n k v h ∙ (ap (λ z. bit_at z (v - k)) e ∙ bit_at-zero (v - k)))

pub none_between : (n k z : ℕ) → ((i : ℕ) → i < z → bit_at (n / 2 ^ k) i ≡ 0) → (v : ℕ) → k ≤ v → v < k + z → has_bit n v ≡ false
none_between n k z g v h l = no_bit n v (from_place n k v h ∙ g (v - k) (omega (arith, h, l)))

pub one_there : (n k z : ℕ) → bit_at (n / 2 ^ k) z ≡ 1 → has_bit n (k + z) ≡ true
one_there n k z h = one_bit n (k + z) (shifted n k z ∙ h)

-- what is left is no greater
pub less_left : (n k : ℕ) → n < 2 ^ 64 → n / 2 ^ k < 2 ^ 64
less_left n k h = let p = div-le_self n (2 ^ k) in omega (arith, p, h)

-- numbers that are not of the set
skipped : (p : ℕ → Bool) (f : ℕ → ℕ) (n k : ℕ) (o : Option Blockers) → ((v : ℕ) → n ≤ v → v < n + k → p v ≡ false) → Sums p f n o → Sums p f (n + k) o
skipped p f n zero o g s = let e : n ≡ n + 0 = omega arith in subst (λ m. Sums p f m o) e s
skipped p f n (suc k) o g s =
    let e : n + k + 1 ≡ n + suc k = omega arith in
    subst (λ m. Sums p f m o) e (sums_more p f (n + k) o (g (n + k) (omega arith) (omega arith)) (skipped p f n k o (λ v h l. g v h (omega (arith, l))) s))

pub skipped_to : (p : ℕ → Bool) (f : ℕ → ℕ) (n m : ℕ) (o : Option Blockers) → n ≤ m → ((v : ℕ) → n ≤ v → v < m → p v ≡ false) → Sums p f n o → Sums p f m o
skipped_to p f n m o h g s =
    let e : n + (m - n) ≡ m = omega (arith, h) in
    subst (λ k. Sums p f k o) e (skipped p f n (m - n) o (λ v a b. g v a (omega (arith, b, h))) s)
