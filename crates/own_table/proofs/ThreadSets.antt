-- Numbers as sets of bits.
use Rattle.std.proofs.Common.{ℕ, ◌≡◌, ◌==◌, ◌≢◌, ◌<◌, ◌≤◌, ◌+◌, ◌-◌, ◌/◌, ◌%◌, ◌^◌, ◌&&◌, ◌||◌, suc, zero, Bool, true, false, not, refl, ap, sym, ◌∙◌, subst}
use Rattle.std.proofs.Common.{inl, inr, arith, zero-add, add-one, bit_and, bit_or}
use Rattle.std.specs.Int.{bit_at}
use Rattle.std.specs.Int.Bits.{and_self, and_zero_l, and_zero_r}
use Rattle.std.proofs.lemmas.Bool.{eqb-false, eq-eqb, ne_eqb, cases_eq, cases_lt, false≢true, not-true, false_from_ne_true}
use Rattle.std.proofs.lemmas.Nat.{pow_pos, and_or_self, and_or_apart, and_assoc, and-not, pow_apart, bit_set_by_shift, and_le_l, shr_below, pow_below, pow-add}
use Rattle.std.proofs.lemmas.Nat.Bits.{bit_at_lowest, bit_at-suc, shr_and_one}
use Rattle.own_table.specs.Bits.{has_bit}

-- the one way to have a bit is that the mask leaves something
pub has_bit_from : (n u : ℕ) → bit_and n (2 ^ u) ≢ 0 → has_bit n u ≡ true
has_bit_from n u h = ap not (ne_eqb (bit_and n (2 ^ u)) 0 h)

pub no_bit_from : (n u : ℕ) → bit_and n (2 ^ u) ≡ 0 → has_bit n u ≡ false
no_bit_from n u h = ap not (eq-eqb (bit_and n (2 ^ u)) 0 h)

pub has_bit_means : (n u : ℕ) → has_bit n u ≡ true → bit_and n (2 ^ u) ≢ 0
has_bit_means n u h e = eqb-false (bit_and n (2 ^ u)) 0 (not-true (bit_and n (2 ^ u) == 0) h) e

pow_not_zero : (u : ℕ) → (2 ^ u) ≢ 0
pow_not_zero u e = absurd (omega (arith, pow_pos u, e))

apart : (t u : ℕ) → (u ≡ t → ⊥) → bit_and (2 ^ t) (2 ^ u) ≡ 0
apart t u h = pow_apart t u (λ e. h (sym e))

or_true : (b : Bool) → (b || true) ≡ true
or_true true = refl
or_true false = refl

or_false : (b : Bool) → (b || false) ≡ b
or_false true = refl
or_false false = refl

and_true : (b : Bool) → (b && true) ≡ b
and_true true = refl
and_true false = refl

and_false : (b : Bool) → (b && false) ≡ false
and_false true = refl
and_false false = refl

pub has_bit_with : (n t u : ℕ) → has_bit (bit_or n (2 ^ t)) u ≡ (has_bit n u || u == t)
has_bit_with n t u = elim (cases_eq u t) [
  | inl e ↦
      let mine : has_bit (bit_or n (2 ^ t)) t ≡ true = has_bit_from (bit_or n (2 ^ t)) t (λ z. pow_not_zero t (sym (and_or_self (2 ^ t) n) ∙ z)) in
      let same : (u == t) ≡ true = eq-eqb u t e in
      ap (has_bit (bit_or n (2 ^ t))) e ∙ (mine ∙ sym (ap (λ b. has_bit n u || b) same ∙ or_true (has_bit n u)))
  | inr d ↦
      let other : (u == t) ≡ false = ne_eqb u t d in
      ap (λ m. not (m == 0)) (and_or_apart (2 ^ u) n (2 ^ t) (apart t u d)) ∙ sym (ap (λ b. has_bit n u || b) other ∙ or_false (has_bit n u))
]

pow_up : (j k : ℕ) → j ≤ k → (2 ^ j) ≤ 2 ^ k
pow_up j k h = elim (cases_eq j k) [ inl e ↦ omega (arith, ap (λ m. 2 ^ m) e) | inr d ↦ omega (arith, pow_below j k (omega arith)) ]

shifted_out : (n u : ℕ) → n < 2 ^ 64 → 64 ≤ u → n / 2 ^ u ≡ 0
shifted_out n u h k =
    let wide : n < 2 ^ u = omega (arith, pow_up 64 u k) in
    let none : n / 2 ^ u < 2 ^ 0 = shr_below n 0 u (subst (λ m. n < 2 ^ m) (sym (zero-add u)) wide) in
    omega (arith, none)

-- a number of 64 bits has none above
pub has_bit_above : (n u : ℕ) → n < 2 ^ 64 → 64 ≤ u → has_bit n u ≡ false
has_bit_above n u h k = false_from_ne_true (has_bit n u) (λ e.
    let none : n / 2 ^ u ≡ 0 = shifted_out n u h k in
    let one : bit_and (n / 2 ^ u) 1 ≡ 1 = (bit_set_by_shift n u).1 (has_bit_means n u e) in
    absurd (omega (arith, sym one ∙ ap (λ z. bit_and z 1) none ∙ and_zero_l 1)))

-- and so each of its bits is below 64
pub has_bit_below : (n u : ℕ) → n < 2 ^ 64 → has_bit n u ≡ true → u < 64
has_bit_below n u h e = elim (cases_lt u 64) [ inl l ↦ l | inr k ↦ absurd (false≢true (sym (has_bit_above n u h k) ∙ e)) ]

pub has_bit_without : (n t u : ℕ) → n < 2 ^ 64 → t < 64 → has_bit (bit_and n (2 ^ 64 - 1 - 2 ^ t)) u ≡ (has_bit n u && not (u == t))
has_bit_without n t u h k = elim (cases_lt u 64) [
  | inl l ↦
      let sum : bit_and (2 ^ 64 - 1 - 2 ^ t) (2 ^ u) + bit_and (2 ^ t) (2 ^ u) ≡ 2 ^ u = and-not 64 (2 ^ t) (2 ^ u) (pow_below t 64 k) (pow_below u 64 l) in
      let order : bit_and (bit_and n (2 ^ 64 - 1 - 2 ^ t)) (2 ^ u) ≡ bit_and n (bit_and (2 ^ 64 - 1 - 2 ^ t) (2 ^ u)) =
      and_assoc (2 ^ u) n (2 ^ 64 - 1 - 2 ^ t) in
      elim (cases_eq u t) [
        | inl e ↦
            let own : bit_and (2 ^ t) (2 ^ u) ≡ 2 ^ u = ap (λ z. bit_and (2 ^ z) (2 ^ u)) (sym e) ∙ and_self (2 ^ u) in
            let none : bit_and (2 ^ 64 - 1 - 2 ^ t) (2 ^ u) ≡ 0 = omega (arith, sum, own) in
            no_bit_from (bit_and n (2 ^ 64 - 1 - 2 ^ t)) u (order ∙ (ap (bit_and n) none ∙ and_zero_r n))
            ∙ sym (ap (λ b. has_bit n u && not b) (eq-eqb u t e) ∙ and_false (has_bit n u))
        | inr d ↦
            let all : bit_and (2 ^ 64 - 1 - 2 ^ t) (2 ^ u) ≡ 2 ^ u = omega (arith, sum, apart t u d) in
            ap (λ m. not (m == 0)) (order ∙ ap (bit_and n) all) ∙ sym (ap (λ b. has_bit n u && not b) (ne_eqb u t d) ∙ and_true (has_bit n u))
      ]
  | inr a ↦
      let less : bit_and n (2 ^ 64 - 1 - 2 ^ t) < 2 ^ 64 = omega (arith, and_le_l n (2 ^ 64 - 1 - 2 ^ t)) in
      has_bit_above (bit_and n (2 ^ 64 - 1 - 2 ^ t)) u less a ∙ sym (ap (λ b. b && not (u == t)) (has_bit_above n u h a))
]

pub has_bit_alone : (t u : ℕ) → has_bit (2 ^ t) u ≡ (u == t)
has_bit_alone t u = elim (cases_eq u t) [
  | inl e ↦ ap (has_bit (2 ^ t)) e ∙ (has_bit_from (2 ^ t) t (λ z. pow_not_zero t (sym (and_self (2 ^ t)) ∙ z)) ∙ sym (eq-eqb u t e))
  | inr d ↦ no_bit_from (2 ^ t) u (apart t u d) ∙ sym (ne_eqb u t d)
]

pub has_bit_none : (u : ℕ) → has_bit 0 u ≡ false
has_bit_none u = no_bit_from 0 u (and_zero_l (2 ^ u))

pub not_zero_from_bit : (n u : ℕ) → has_bit n u ≡ true → (n == 0) ≡ false
not_zero_from_bit n u h = ne_eqb n 0 (λ e. false≢true (sym (ap (λ m. has_bit m u) e ∙ has_bit_none u) ∙ h))

some_bit : (k n : ℕ) → n < 2 ^ k → n ≢ 0 → (u : ℕ) × (bit_at n u ≡ 1)
some_bit zero n h d = absurd (d (omega (arith, h)))
some_bit (suc k) n h d = elim (cases_eq (n % 2) 1) [
  | inl e ↦ (0, bit_at_lowest n ∙ e)
  | inr o ↦
      let half : (u : ℕ) × (bit_at (n / 2) u ≡ 1) = some_bit k (n / 2) (shr_below n k 1 (subst (λ m. n < 2 ^ m) (sym (add-one k)) h))
      (λ z. d (omega (arith, z))) in
      (suc half.0, bit_at-suc n half.0 ∙ half.1)
]

below_pow : (n : ℕ) → n < 2 ^ n
below_pow zero = pow_pos 0
below_pow (suc n) = omega (arith, below_pow n, pow-add 2 n 1, ap (λ m. 2 ^ m) (add-one n))

-- a number that is not 0 has a bit
pub bit_from_not_zero : (n : ℕ) → (n == 0) ≡ false → (u : ℕ) × (has_bit n u ≡ true)
bit_from_not_zero n d =
    let some : (u : ℕ) × (bit_at n u ≡ 1) = some_bit n n (below_pow n) (eqb-false n 0 d) in
    (some.0, has_bit_from n some.0 ((bit_set_by_shift n some.0).0 (shr_and_one n some.0 ∙ some.1)))

-- where no thread is among the blockers, no other thread's hold blocks
pub unblocked : (n t : ℕ) (blocking : ℕ → Bool) → n ≡ 0 → ((u : ℕ) → has_bit n u ≡ (blocking u && not (u == t))) → (u : ℕ) → u ≢ t → blocking u ≡ false
unblocked n t blocking e among u d =
    let none : (blocking u && not (u == t)) ≡ false = sym (among u) ∙ (ap (λ m. has_bit m u) e ∙ has_bit_none u) in
    sym (and_true (blocking u)) ∙ (ap (λ b. blocking u && not b) (sym (ne_eqb u t d)) ∙ none)
