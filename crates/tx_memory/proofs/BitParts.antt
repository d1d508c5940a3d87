-- Some bits of a word.
use Rattle.std.proofs.Common.{ℕ, ◌≡◌, ◌==◌, ◌<◌, ◌≤◌, ◌+◌, ◌-◌, ◌*◌, ◌/◌, ◌%◌, ◌^◌, ◌||◌, suc, true, ap, sym, ◌∙◌, subst, inl, inr, arith, bit_and, lit<}
use Rattle.std.proofs.Math.Nat.{mod-lt, mul-le-mul_left}
use Rattle.std.proofs.lemmas.Bool.{eqb-true, or_cases, cases_eq, true≢false}
use Rattle.std.proofs.lemmas.Nat.{pow_pos, pow-add, shl_whole, shr_below, and_mask}
use Rattle.tx_events.specs.Thread.{is_size}

pub low : (w c : ℕ) → c < 64 → bit_and w (1 * 2 ^ c % 2 ^ 64 - 1) ≡ w % 2 ^ c
low w c h =
    let whole : 1 * 2 ^ c % 2 ^ 64 ≡ 2 ^ c = omega (arith, shl_whole 1 1 c 64 (lit< tt) (omega arith)) in
    ap (λ m. bit_and w (m - 1)) whole ∙ and_mask w c

pub shifted : (v s n : ℕ) → v < 2 ^ n → s + n ≤ 64 → v * 2 ^ s % 2 ^ 64 ≡ v * 2 ^ s
shifted v s n h k = shl_whole v n s 64 h (omega arith)

sums : (q t j v a b r whole : ℕ) → t * suc q ≤ t * j → j * t ≡ whole → a * suc v ≤ a * b → t ≡ a * b → r < a → q * t + v * a + r < whole
sums q t j v a b r whole high w middle split less = omega (arith, high, w, middle, split, less)

-- the parts of a word together are a word
pub fits : (w v s n : ℕ) → w < 2 ^ 64 → v < 2 ^ n → s + n ≤ 64 → w / 2 ^ (s + n) * 2 ^ (s + n) + v * 2 ^ s + w % 2 ^ s < 2 ^ 64
fits w v s n wide h k =
    let j : ℕ = 64 - (s + n) in
    let all : (j + (s + n)) ≡ 64 = omega arith in
    let top : w / 2 ^ (s + n) < 2 ^ j = shr_below w j (s + n) (subst (λ m. w < 2 ^ m) (sym all) wide) in
    let high : 2 ^ (s + n) * suc (w / 2 ^ (s + n)) ≤ 2 ^ (s + n) * 2 ^ j = mul-le-mul_left (2 ^ (s + n)) top in
    let whole : 2 ^ j * 2 ^ (s + n) ≡ 2 ^ 64 = sym (pow-add 2 j (s + n)) ∙ ap (λ m. 2 ^ m) all in
    let middle : 2 ^ s * suc v ≤ 2 ^ s * 2 ^ n = mul-le-mul_left (2 ^ s) h in
    let split : 2 ^ (s + n) ≡ 2 ^ s * 2 ^ n = pow-add 2 s n in
    let less : w % 2 ^ s < 2 ^ s = mod-lt w (pow_pos s) in
    sums (w / 2 ^ (s + n)) (2 ^ (s + n)) (2 ^ j) v (2 ^ s) (2 ^ n) (w % 2 ^ s) (2 ^ 64) high whole middle split less

pub within : (addr size : ℕ) → is_size size ≡ true → addr % size ≡ 0 → addr % 8 + size ≤ 8
within addr size h a = elim (or_cases ((size == 1) || (size == 2) || (size == 4)) (size == 8) h) [
  | inr e ↦ let s : size ≡ 8 = eqb-true size 8 e in let b : addr % 8 ≡ 0 = ap (λ n. addr % n) (sym s) ∙ a in omega (arith, s, b)
  | inl r ↦ elim (or_cases ((size == 1) || (size == 2)) (size == 4) r) [
    | inr e ↦ let s : size ≡ 4 = eqb-true size 4 e in let b : addr % 4 ≡ 0 = ap (λ n. addr % n) (sym s) ∙ a in omega (arith, s, b)
    | inl q ↦ elim (or_cases (size == 1) (size == 2) q) [
      | inl e ↦ let s : size ≡ 1 = eqb-true size 1 e in omega (arith, s)
      | inr e ↦ let s : size ≡ 2 = eqb-true size 2 e in let b : addr % 2 ≡ 0 = ap (λ n. addr % n) (sym s) ∙ a in omega (arith, s, b)
    ]
  ]
]

-- an offset from the start of the globals is aligned as its address is
pub moved : (offset size : ℕ) → is_size size ≡ true → offset % size ≡ 0 → (65536 + offset) % size ≡ 0
moved offset size h a = elim (or_cases ((size == 1) || (size == 2) || (size == 4)) (size == 8) h) [
  | inr e ↦ let s : size ≡ 8 = eqb-true size 8 e in let b : offset % 8 ≡ 0 = ap (λ n. offset % n) (sym s) ∙ a in let r : (65536 + offset) % 8 ≡ 0 =
      omega (arith, b) in ap (λ n. (65536 + offset) % n) s ∙ r
  | inl r ↦ elim (or_cases ((size == 1) || (size == 2)) (size == 4) r) [
    | inr e ↦ let s : size ≡ 4 = eqb-true size 4 e in let b : offset % 4 ≡ 0 = ap (λ n. offset % n) (sym s) ∙ a in let r : (65536 + offset) % 4 ≡ 0 =
        omega (arith, b) in ap (λ n. (65536 + offset) % n) s ∙ r
    | inl q ↦ elim (or_cases (size == 1) (size == 2) q) [
      | inl e ↦ let s : size ≡ 1 = eqb-true size 1 e in let r : (65536 + offset) % 1 ≡ 0 = omega arith in ap (λ n. (65536 + offset) % n) s ∙ r
      | inr e ↦ let s : size ≡ 2 = eqb-true size 2 e in let b : offset % 2 ≡ 0 = ap (λ n. offset % n) (sym s) ∙ a in let r : (65536 + offset) % 2 ≡ 0 =
          omega (arith, b) in ap (λ n. (65536 + offset) % n) s ∙ r
    ]
  ]
]

pub some_size : (size : ℕ) → is_size size ≡ true → 0 < size
some_size size h = elim (cases_eq size 0) [
  | inl e ↦ absurd (true≢false (sym h ∙ ap is_size e))
  | inr d ↦ omega (arith, d)
]

-- the least size is left
pub one_left : (size : ℕ) → is_size size ≡ true → (size ≡ 8 → ⊥) → (size ≡ 4 → ⊥) → (size ≡ 2 → ⊥) → size ≡ 1
one_left size h not8 not4 not2 = elim (or_cases ((size == 1) || (size == 2) || (size == 4)) (size == 8) h) [
  | inr e ↦ absurd (not8 (eqb-true size 8 e))
  | inl a ↦ elim (or_cases ((size == 1) || (size == 2)) (size == 4) a) [
    | inr e ↦ absurd (not4 (eqb-true size 4 e))
    | inl b ↦ elim (or_cases (size == 1) (size == 2) b) [
      | inr e ↦ absurd (not2 (eqb-true size 2 e))
      | inl e ↦ eqb-true size 1 e
    ]
  ]
]
