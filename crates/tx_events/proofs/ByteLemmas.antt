-- Loads and stores by bytes.
use Rattle.std.proofs.Common.{ℕ, zero, suc, ◌≡◌, ◌==◌, ◌<◌, ◌≤◌, ◌+◌, ◌*◌, ◌^◌, ◌/◌, ◌%◌, ◌⊎◌, inl, inr, Bool, true, false, cond, refl, ap, sym, ◌∙◌, subst}
use Rattle.std.proofs.Common.{arith}
use Rattle.std.specs.Prelude.{◌||◌, ◌-◌}
use Rattle.std.proofs.Math.Nat.{mod-lt, mod-one, div-div-eq-div-mul, mul-add-div, mul-add-mod_self_left, mul_assoc, mul-add, mul_comm, div-add-mod', add-mul}
use Rattle.std.proofs.Math.Nat.{one-mul, mul-le-mul_right, div-lt_iff_lt-mul}
use Rattle.std.proofs.lemmas.Nat.{pow_pos, pow-add, mod-pow-add, div-mul-add}
use Rattle.std.proofs.lemmas.Bool.{eqb-true, eq-eqb, false≢true}
use Rattle.tx_events.specs.Thread.{is_size}
use Rattle.tx_events.specs.Memory.{read_at, merge, word_of, byte_at, number_at, load, store, is_aligned}

-- an aligned access lies in its word
pub fits_word : (addr size : ℕ) → is_size size ≡ true → is_aligned addr size ≡ true → addr % 8 + size ≤ 8
unfolding is_aligned
fits_word addr size s a = by_size (size == 1) (size == 2) (size == 4) (size == 8) refl refl refl refl s
  where
    at : (n : ℕ) → size ≡ n → addr % n ≡ 0
    at n e = subst (λ z. addr % z ≡ 0) e (eqb-true (addr % size) 0 a)

    by_size : (b c d e : Bool) → (size == 1) ≡ b → (size == 2) ≡ c → (size == 4) ≡ d → (size == 8) ≡ e → (b || c || d || e) ≡ true → addr % 8 + size ≤ 8
    by_size true c d e i j k l h = let is = eqb-true size 1 i in omega (arith, is)
    by_size false true d e i j k l h = let is = eqb-true size 2 j in let even = at 2 is in omega (arith, is, even)
    by_size false false true e i j k l h = let is = eqb-true size 4 k in let even = at 4 is in omega (arith, is, even)
    by_size false false false true i j k l h = let is = eqb-true size 8 l in let even = at 8 is in omega (arith, is, even)
    by_size false false false false i j k l h = absurd (false≢true h)

pub same_word : (addr n : ℕ) → addr % 8 + n < 8 → word_of (addr + n) ≡ word_of addr
unfolding word_of
same_word addr n h = omega (arith, h)

same_place : (addr n : ℕ) → addr % 8 + n < 8 → (addr + n) % 8 ≡ addr % 8 + n
same_place addr n h = omega (arith, h)

byte_in : (memory : ℕ → ℕ) (addr n : ℕ) → addr % 8 + n < 8 → byte_at memory (addr + n) ≡ memory (word_of addr) / 2 ^ (8 * (addr % 8 + n)) % 2 ^ 8
unfolding byte_at
byte_in memory addr n h = ap (λ w. memory w / 2 ^ (8 * ((addr + n) % 8)) % 2 ^ 8) (same_word addr n h)
    ∙ ap (λ k. memory (word_of addr) / 2 ^ (8 * k) % 2 ^ 8) (same_place addr n h)

-- a shift after a shift
shifts : (w i j : ℕ) → w / 2 ^ (8 * i) / 2 ^ (8 * j) ≡ w / 2 ^ (8 * (i + j))
shifts w i j = div-div-eq-div-mul w (2 ^ (8 * i)) (2 ^ (8 * j)) ∙ ap (λ z. w / z) (sym (pow-add 2 (8 * i) (8 * j)) ∙ ap (λ z. 2 ^ z) (sym (mul-add 8 i j)))

number_in : (memory : ℕ → ℕ) (addr n : ℕ) → addr % 8 + n ≤ 8 → number_at memory addr n ≡ memory (word_of addr) / 2 ^ (8 * (addr % 8)) % 2 ^ (8 * n)
number_in memory addr zero h = sym (mod-one (memory (word_of addr) / 2 ^ (8 * (addr % 8))))
number_in memory addr (suc n) h =
    let w = memory (word_of addr) in
    let x = w / 2 ^ (8 * (addr % 8)) in
    let rest : number_at memory addr n ≡ x % 2 ^ (8 * n) = number_in memory addr n (omega (arith, h)) in
    let top : byte_at memory (addr + n) ≡ x / 2 ^ (8 * n) % 2 ^ 8 = byte_in memory addr n (omega (arith, h))
    ∙ ap (λ z. z % 2 ^ 8) (sym (shifts w (addr % 8) n)) in
    let both : x % 2 ^ (8 + 8 * n) ≡ (x / 2 ^ (8 * n) % 2 ^ 8) * 2 ^ (8 * n) + x % 2 ^ (8 * n) = mod-pow-add x 8 (8 * n) in
    let size : 8 + 8 * n ≡ 8 * suc n = omega arith in
    let sum : number_at memory addr n + byte_at memory (addr + n) * 2 ^ (8 * n) ≡ x % 2 ^ (8 * n) + (x / 2 ^ (8 * n) % 2 ^ 8) * 2 ^ (8 * n) = cc in
    sum ∙ (swap (x % 2 ^ (8 * n)) ((x / 2 ^ (8 * n) % 2 ^ 8) * 2 ^ (8 * n)) ∙ (sym both ∙ ap (λ z. x % 2 ^ z) size))
  where
    swap : (a b : ℕ) → a + b ≡ b + a
    swap a b = omega arith

-- a load reads these bytes
pub load_bytes : (memory : ℕ → ℕ) (addr size : ℕ) → is_size size ≡ true → is_aligned addr size ≡ true → load memory addr size ≡ number_at memory addr size
unfolding read_at
load_bytes memory addr size s a = sym (number_in memory addr size (fits_word addr size s a))

-- bytes below a power are those of the rest
low_part : (q r i n : ℕ) → i < n → (q * 2 ^ (8 * n) + r) / 2 ^ (8 * i) % 2 ^ 8 ≡ r / 2 ^ (8 * i) % 2 ^ 8
low_part q r i n h =
    let d = n - (i + 1) in
    let split : 8 * n ≡ 8 * i + (8 + 8 * d) = omega (arith, h) in
    let power : 2 ^ (8 * n) ≡ 2 ^ (8 * i) * (2 ^ 8 * 2 ^ (8 * d)) =
    ap (λ z. 2 ^ z) split ∙ (pow-add 2 (8 * i) (8 + 8 * d) ∙ ap (λ z. 2 ^ (8 * i) * z) (pow-add 2 8 (8 * d))) in
    let whole : q * 2 ^ (8 * n) ≡ 2 ^ (8 * i) * (2 ^ 8 * (2 ^ (8 * d) * q)) =
    mul_comm q (2 ^ (8 * n)) ∙ (ap (λ z. z * q) power ∙
    (mul_assoc (2 ^ (8 * i)) (2 ^ 8 * 2 ^ (8 * d)) q ∙ ap (λ z. 2 ^ (8 * i) * z) (mul_assoc (2 ^ 8) (2 ^ (8 * d)) q))) in
    ap (λ z. (z + r) / 2 ^ (8 * i) % 2 ^ 8) whole
    ∙ (ap (λ z. z % 2 ^ 8) (mul-add-div (pow_pos (8 * i)) (2 ^ 8 * (2 ^ (8 * d) * q)) r)
    ∙ mul-add-mod_self_left (2 ^ 8) (2 ^ (8 * d) * q) (r / 2 ^ (8 * i)))

module _ (o size value w : ℕ) (small : value < 2 ^ (8 * size)) where
  abbrev merged : ℕ
  merged = w / 2 ^ (8 * o + 8 * size) * 2 ^ (8 * o + 8 * size) + value * 2 ^ (8 * o) + w % 2 ^ (8 * o)

  by_low : merged ≡ (w / 2 ^ (8 * o + 8 * size) * 2 ^ (8 * size) + value) * 2 ^ (8 * o) + w % 2 ^ (8 * o)
  by_low =
      let q = w / 2 ^ (8 * o + 8 * size) in
      let power : q * 2 ^ (8 * o + 8 * size) ≡ q * 2 ^ (8 * size) * 2 ^ (8 * o) =
      ap (λ z. q * z) (pow-add 2 (8 * o) (8 * size) ∙ mul_comm (2 ^ (8 * o)) (2 ^ (8 * size))) ∙ sym (mul_assoc q (2 ^ (8 * size)) (2 ^ (8 * o))) in
      ap (λ z. z + value * 2 ^ (8 * o) + w % 2 ^ (8 * o)) power ∙ ap (λ z. z + w % 2 ^ (8 * o)) (sym (add-mul (q * 2 ^ (8 * size)) value (2 ^ (8 * o))))

  merged_low : (i : ℕ) → i < o → merged / 2 ^ (8 * i) % 2 ^ 8 ≡ w / 2 ^ (8 * i) % 2 ^ 8
  merged_low i h =
      ap (λ z. z / 2 ^ (8 * i) % 2 ^ 8) by_low
      ∙ (low_part (w / 2 ^ (8 * o + 8 * size) * 2 ^ (8 * size) + value) (w % 2 ^ (8 * o)) i o h
      ∙ (sym (low_part (w / 2 ^ (8 * o)) (w % 2 ^ (8 * o)) i o h) ∙ ap (λ z. z / 2 ^ (8 * i) % 2 ^ 8) (div-add-mod' w (2 ^ (8 * o)))))

  merged_in : (k : ℕ) → k < size → merged / 2 ^ (8 * (o + k)) % 2 ^ 8 ≡ value / 2 ^ (8 * k) % 2 ^ 8
  merged_in k h =
      let q = w / 2 ^ (8 * o + 8 * size) in
      let cut : merged / 2 ^ (8 * o) ≡ q * 2 ^ (8 * size) + value =
      ap (λ z. z / 2 ^ (8 * o)) by_low ∙ div-mul-add (q * 2 ^ (8 * size) + value) (2 ^ (8 * o)) (w % 2 ^ (8 * o)) (mod-lt w (pow_pos (8 * o))) in
      ap (λ z. z % 2 ^ 8) (sym (shifts merged o k) ∙ ap (λ z. z / 2 ^ (8 * k)) cut) ∙ low_part q value k size h

  merged_high : (i : ℕ) → o + size ≤ i → merged / 2 ^ (8 * i) % 2 ^ 8 ≡ w / 2 ^ (8 * i) % 2 ^ 8
  merged_high i h =
      let n = o + size in
      let a = 2 ^ (8 * o) in
      let power : 2 ^ (8 * o + 8 * size) ≡ 2 ^ (8 * n) = ap (λ z. 2 ^ z) (sym (mul-add 8 o size)) in
      let rest : value * a + w % a < 2 ^ (8 * o + 8 * size) =
      let short : w % a < a = mod-lt w (pow_pos (8 * o)) in
      let fits : (value + 1) * a ≤ 2 ^ (8 * size) * a = mul-le-mul_right a (omega (arith, small)) in
      let next : (value + 1) * a ≡ value * a + a = add-mul value 1 a ∙ ap (λ z. value * a + z) (one-mul a) in
      let product : 2 ^ (8 * o + 8 * size) ≡ 2 ^ (8 * size) * a = pow-add 2 (8 * o) (8 * size) ∙ mul_comm a (2 ^ (8 * size)) in
      below (value * a) a (w % a) (2 ^ (8 * size) * a) (2 ^ (8 * o + 8 * size)) (subst (λ z. z ≤ 2 ^ (8 * size) * a) next fits) short product in
      let cut : merged / 2 ^ (8 * n) ≡ w / 2 ^ (8 * n) =
      subst (λ z. merged / z ≡ w / z) power
      (ap (λ z. z / 2 ^ (8 * o + 8 * size)) (regroup (w / 2 ^ (8 * o + 8 * size) * 2 ^ (8 * o + 8 * size)) (value * a) (w % a))
      ∙ div-mul-add (w / 2 ^ (8 * o + 8 * size)) (2 ^ (8 * o + 8 * size)) (value * a + w % a) rest) in
      let far : n + (i - n) ≡ i = omega (arith, h) in
      subst (λ z. merged / 2 ^ (8 * z) % 2 ^ 8 ≡ w / 2 ^ (8 * z) % 2 ^ 8) far
      (ap (λ z. z % 2 ^ 8) (sym (shifts merged n (i - n)) ∙ (ap (λ z. z / 2 ^ (8 * (i - n))) cut ∙ shifts w n (i - n))))
    where
      below : (x y r p z : ℕ) → x + y ≤ p → r < y → z ≡ p → x + r < z
      below x y r p z f g e = omega (arith, f, g, e)

      regroup : (x y z : ℕ) → x + y + z ≡ x + (y + z)
      regroup x y z = omega arith

-- the word of a store
stored_word : (memory : ℕ → ℕ) (addr size value : ℕ) → store memory addr size value (word_of addr) ≡ merge addr size value (memory (word_of addr))
stored_word memory addr size value = rw (eq-eqb (word_of addr) (word_of addr) refl)

-- after a store these bytes are those of the value
pub store_bytes : (memory : ℕ → ℕ) (addr size value k : ℕ) → is_size size ≡ true → is_aligned addr size ≡ true → value < 2 ^ (8 * size) → k < size
    → byte_at (store memory addr size value) (addr + k) ≡ value / 2 ^ (8 * k) % 2 ^ 8
unfolding merge
store_bytes memory addr size value k s a small h =
    let fits = fits_word addr size s a in
    byte_in (store memory addr size value) addr k (omega (arith, fits, h))
    ∙ (ap (λ z. z / 2 ^ (8 * (addr % 8 + k)) % 2 ^ 8) (stored_word memory addr size value)
    ∙ merged_in (addr % 8) size value (memory (word_of addr)) small k h)

lower_byte : (addr other : ℕ) → word_of other ≡ word_of addr → other < addr → other % 8 < addr % 8
unfolding word_of
lower_byte addr other e h = omega (arith, e, h)

upper_byte : (addr size other : ℕ) → word_of other ≡ word_of addr → addr + size ≤ other → addr % 8 + size ≤ other % 8
unfolding word_of
upper_byte addr size other e h = omega (arith, e, h)

-- another byte of the word of a store
byte_beside : (addr size value w other : ℕ) → value < 2 ^ (8 * size) → word_of other ≡ word_of addr → (other < addr) ⊎ (addr + size ≤ other)
    → merge addr size value w / 2 ^ (8 * (other % 8)) % 2 ^ 8 ≡ w / 2 ^ (8 * (other % 8)) % 2 ^ 8
unfolding merge
byte_beside addr size value w other small e (inl h) = merged_low (addr % 8) size value w small (other % 8) (lower_byte addr other e h)
byte_beside addr size value w other small e (inr h) = merged_high (addr % 8) size value w small (other % 8) (upper_byte addr size other e h)

-- and each other byte is as it was
pub store_others : (memory : ℕ → ℕ) (addr size value other : ℕ) → value < 2 ^ (8 * size) → (other < addr) ⊎ (addr + size ≤ other)
    → byte_at (store memory addr size value) other ≡ byte_at memory other
unfolding byte_at
store_others memory addr size value other small h =
    elim (word_of other == word_of addr) as (λ b. (word_of other == word_of addr) ≡ b
    → cond b (merge addr size value (memory (word_of addr))) (memory (word_of other)) / 2 ^ (8 * (other % 8)) % 2 ^ 8
    ≡ memory (word_of other) / 2 ^ (8 * (other % 8)) % 2 ^ 8) [
      | true ↦ λ e. let same = eqb-true (word_of other) (word_of addr) e in
          byte_beside addr size value (memory (word_of addr)) other small same h ∙ ap (λ z. memory z / 2 ^ (8 * (other % 8)) % 2 ^ 8) (sym same)
      | false ↦ λ e. refl
    ] refl

-- a word stays one
word_fits : (o size value w : ℕ) → o + size ≤ 8 → value < 2 ^ (8 * size) → w < 2 ^ 64
    → w / 2 ^ (8 * o + 8 * size) * 2 ^ (8 * o + 8 * size) + value * 2 ^ (8 * o) + w % 2 ^ (8 * o) < 2 ^ 64
word_fits o size value w fits small word =
    let n = o + size in
    let a = 2 ^ (8 * o) in
    let c = 2 ^ (8 * o + 8 * size) in
    let q = w / c in
    let short : w % a < a = mod-lt w (pow_pos (8 * o)) in
    let product : c ≡ 2 ^ (8 * size) * a = pow-add 2 (8 * o) (8 * size) ∙ mul_comm a (2 ^ (8 * size)) in
    let next : (value + 1) * a ≡ value * a + a = add-mul value 1 a ∙ ap (λ z. value * a + z) (one-mul a) in
    let capacity : value * a + a ≤ c = subst (λ z. value * a + a ≤ z) (sym product)
    (subst (λ z. z ≤ 2 ^ (8 * size) * a) next (mul-le-mul_right a (omega (arith, small)))) in
    let total : 8 * (8 - n) + (8 * o + 8 * size) ≡ 64 = omega (arith, fits) in
    let whole : 2 ^ (8 * (8 - n)) * c ≡ 2 ^ 64 = sym (pow-add 2 (8 * (8 - n)) (8 * o + 8 * size)) ∙ ap (λ z. 2 ^ z) total in
    let few : q < 2 ^ (8 * (8 - n)) = (div-lt_iff_lt-mul (pow_pos (8 * o + 8 * size))).1 (subst (λ z. w < z) (sym whole) word) in
    let top : (q + 1) * c ≤ 2 ^ 64 = subst (λ z. (q + 1) * c ≤ z) whole (mul-le-mul_right c (omega (arith, few))) in
    let last : (q + 1) * c ≡ q * c + c = add-mul q 1 c ∙ ap (λ z. q * c + z) (one-mul c) in
    below (q * c) (value * a) a (w % a) c (subst (λ z. z ≤ 2 ^ 64) last top) capacity short
  where
    below : (x y z r c : ℕ) → x + c ≤ 2 ^ 64 → y + z ≤ c → r < z → x + y + r < 2 ^ 64
    below x y z r c f g h = omega (arith, f, g, h)

pub store_fits : (memory : ℕ → ℕ) (addr size value x : ℕ) → is_size size ≡ true → is_aligned addr size ≡ true → value < 2 ^ (8 * size)
    → memory (word_of addr) < 2 ^ 64 → memory x < 2 ^ 64 → store memory addr size value x < 2 ^ 64
unfolding merge
store_fits memory addr size value x s a small there here =
    elim (x == word_of addr) as (λ b. cond b (merge addr size value (memory (word_of addr))) (memory x) < 2 ^ 64) [
      | true ↦ word_fits (addr % 8) size value (memory (word_of addr)) (fits_word addr size s a) small there
      | false ↦ here
    ]
