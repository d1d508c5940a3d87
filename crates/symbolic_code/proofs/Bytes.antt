-- The bytes of exceptions, as code puts and takes them and as the source does.
use Rattle.std.proofs.Common.{ℕ, zero, suc, ◌≡◌, ◌+◌, ◌*◌, ◌%◌, ◌/◌, ◌^◌, ◌<◌, ◌≤◌, ◌⊎◌, inl, inr, refl, ap, ap₂, sym, ◌∙◌, subst, List, [], ◌∷◌, arith}
use Rattle.std.specs.Prelude.{slice_set, slice_index_or, length, take}
use Rattle.std.proofs.lemmas.Nat.{mod-pow-add}
use Rattle.std.proofs.Math.Nat.{mod-one}
use Rattle.tx_code.specs.Meaning.{put_bytes, get_bytes, no_bytes}
use Rattle.src_mean.specs.Exceptions.{over, with_bytes, bytes_of, number_of, read_bytes}
use Rattle.src_mean.specs.Exceptions as exceptions

with_none : (n : ℕ) (bs : List ℕ) → bs ≡ with_bytes n [] bs
with_none zero bs = refl
with_none (suc n) [] = refl
with_none (suc n) (b ∷ bs) = ap (λ (z : List ℕ). b ∷ z) (with_none n bs)

with_next : (n b : ℕ) (ns bs : List ℕ) → with_bytes (suc n) ns (slice_set bs n b) ≡ with_bytes n (b ∷ ns) bs
with_next zero b ns [] = refl
with_next zero b ns (c ∷ bs) = refl
with_next (suc n) b ns [] = refl
with_next (suc n) b ns (c ∷ bs) = ap (λ (z : List ℕ). c ∷ z) (with_next n b ns bs)

one_on : (n : ℕ) → n + 1 ≡ suc n
one_on n = omega arith

-- the bytes of a number from a position on
pub put_same : (bs : List ℕ) (n size v : ℕ) → put_bytes bs n size v ≡ with_bytes n (bytes_of size v) bs
unfolding put_bytes
put_same bs n zero v = with_none n bs
put_same bs n (suc size) v = put_same (slice_set bs n (v % 256)) (n + 1) size (v / 256)
    ∙ (ap (λ z. with_bytes z (bytes_of size (v / 256)) (slice_set bs n (v % 256))) (one_on n) ∙ with_next n (v % 256) (bytes_of size (v / 256)) bs)

pub no_bytes_same : no_bytes ≡ exceptions.no_bytes
unfolding no_bytes
no_bytes_same = refl

none_behind : (n size : ℕ) → get_bytes [] n size ≡ 0
unfolding get_bytes
none_behind n zero = refl
none_behind n (suc size) = ap (λ z. 0 + 256 * z) (none_behind (n + 1) size)

shifted : (b : ℕ) (bs : List ℕ) (n size : ℕ) → get_bytes (b ∷ bs) (suc n) size ≡ get_bytes bs n size
unfolding get_bytes
shifted b bs n zero = refl
shifted b bs n (suc size) = ap (λ z. slice_index_or bs n 0 + 256 * z)
    (ap (λ z. get_bytes (b ∷ bs) z size) (one_on (suc n)) ∙ (shifted b bs (suc n) size ∙ ap (λ z. get_bytes bs z size) (sym (one_on n))))

-- the number that bytes from a position on are
pub get_same : (bs : List ℕ) (n size : ℕ) → get_bytes bs n size ≡ read_bytes bs n size
unfolding get_bytes
get_same [] zero zero = refl
get_same [] (suc n) zero = refl
get_same (b ∷ bs) zero zero = refl
get_same (b ∷ bs) (suc n) zero = get_same bs n zero
get_same [] zero (suc size) = ap (λ z. 0 + 256 * z) (none_behind 1 size)
get_same [] (suc n) (suc size) = ap (λ z. 0 + 256 * z) (none_behind (suc n + 1) size)
get_same (b ∷ bs) zero (suc size) = ap (λ z. b + 256 * z) (shifted b bs 0 size ∙ get_same bs 0 size)
get_same (b ∷ bs) (suc n) (suc size) = shifted b bs n (suc size) ∙ get_same bs n (suc size)

-- the lowest bytes of a number
abbrev low : ℕ → ℕ → ℕ
low n w = w % 2 ^ (8 * n)

low_next : (n w : ℕ) → low (suc n) w ≡ (w / 256 % 2 ^ (8 * n)) * 256 + w % 256
low_next n w = ap (λ z. w % 2 ^ z) (eight n) ∙ mod-pow-add w (8 * n) 8
  where
    eight : (n : ℕ) → 8 * suc n ≡ 8 * n + 8
    eight n = omega arith

first_byte : (m r : ℕ) → r < 256 → (m * 256 + r) % 256 ≡ r
first_byte m r h = omega (arith, h)

other_bytes : (m r : ℕ) → r < 256 → (m * 256 + r) / 256 ≡ m
other_bytes m r h = omega (arith, h)

byte_below : (w : ℕ) → w % 256 < 256
byte_below w = omega arith

pub bytes_low : (n w : ℕ) → bytes_of n (w % 2 ^ (8 * n)) ≡ bytes_of n w
bytes_low zero w = refl
bytes_low (suc n) w = ap₂ (λ (b : ℕ) (bs : List ℕ). b ∷ bs)
    (ap (λ z. z % 256) (low_next n w) ∙ first_byte (w / 256 % 2 ^ (8 * n)) (w % 256) (byte_below w))
    (ap (λ z. bytes_of n (z / 256)) (low_next n w) ∙ (ap (λ z. bytes_of n z) (other_bytes (w / 256 % 2 ^ (8 * n)) (w % 256) (byte_below w)) ∙ bytes_low n
    (w / 256)))

-- Bytes that were put, and are read again

over_length : (ns bs : List ℕ) → length (over ns bs) ≡ length bs
over_length [] bs = refl
over_length (n ∷ ns) [] = refl
over_length (n ∷ ns) (b ∷ bs) = ap suc (over_length ns bs)

pub with_length : (n : ℕ) (ns bs : List ℕ) → length (with_bytes n ns bs) ≡ length bs
with_length zero ns bs = over_length ns bs
with_length (suc n) ns [] = refl
with_length (suc n) ns (b ∷ bs) = ap suc (with_length n ns bs)

bytes_length : (size v : ℕ) → length (bytes_of size v) ≡ size
bytes_length zero v = refl
bytes_length (suc size) v = ap suc (bytes_length size (v / 256))

not_longer : (n m : ℕ) → suc n ≤ suc m → n ≤ m
not_longer n m h = omega (arith, h)

none_left : (n : ℕ) → suc n ≤ 0 → ⊥
none_left n h = omega (arith, h)

-- the first bytes are those that lie over others
taken_over : (ns bs : List ℕ) → length ns ≤ length bs → take (length ns) (over ns bs) ≡ ns
taken_over [] bs h = refl
taken_over (n ∷ ns) [] h = absurd (none_left (length ns) h)
taken_over (n ∷ ns) (b ∷ bs) h = ap (λ (z : List ℕ). n ∷ z) (taken_over ns bs (not_longer (length ns) (length bs) h))

number_low : (size v : ℕ) → number_of (bytes_of size v) ≡ v % 2 ^ (8 * size)
number_low zero v = sym (mod-one v)
number_low (suc size) v = ap (λ z. v % 256 + 256 * z) (number_low size (v / 256)) ∙ (turned (v % 256) (v / 256 % 2 ^ (8 * size)) ∙ sym (low_next size v))
  where
    turned : (r m : ℕ) → r + 256 * m ≡ m * 256 + r
    turned r m = omega arith

pub put_read : (n size v : ℕ) (bs : List ℕ) → n + size ≤ length bs → read_bytes (with_bytes n (bytes_of size v) bs) n size ≡ v % 2 ^ (8 * size)
put_read zero size v bs h = ap (λ z. number_of (take z (over (bytes_of size v) bs))) (sym (bytes_length size v))
    ∙ (ap number_of (taken_over (bytes_of size v) bs (subst (λ z. z ≤ length bs) (sym (bytes_length size v)) (plain size (length bs) h))) ∙ number_low size v)
  where
    plain : (n m : ℕ) → 0 + n ≤ m → n ≤ m
    plain n m h = omega (arith, h)
put_read (suc n) size v [] h = absurd (none n size h)
  where
    none : (n m : ℕ) → suc n + m ≤ 0 → ⊥
    none n m h = omega (arith, h)
put_read (suc n) size v (b ∷ bs) h = put_read n size v bs (shorter n size (length bs) h)
  where
    shorter : (n m k : ℕ) → suc n + m ≤ suc k → n + m ≤ k
    shorter n m k h = omega (arith, h)

-- bytes behind and before those that were put
read_behind : (m : ℕ) (ns bs : List ℕ) (n size : ℕ) → m + length ns ≤ n → read_bytes (with_bytes m ns bs) n size ≡ read_bytes bs n size
read_behind zero [] bs n size h = refl
read_behind zero (c ∷ ns) [] n size h = refl
read_behind zero (c ∷ ns) (b ∷ bs) zero size h = absurd (none (length ns) h)
  where
    none : (k : ℕ) → 0 + suc k ≤ 0 → ⊥
    none k h = omega (arith, h)
read_behind zero (c ∷ ns) (b ∷ bs) (suc n) size h = read_behind zero ns bs n size (shorter (length ns) n h)
  where
    shorter : (k n : ℕ) → 0 + suc k ≤ suc n → 0 + k ≤ n
    shorter k n h = omega (arith, h)
read_behind (suc m) ns [] n size h = refl
read_behind (suc m) ns (b ∷ bs) zero size h = absurd (none m (length ns) h)
  where
    none : (m k : ℕ) → suc m + k ≤ 0 → ⊥
    none m k h = omega (arith, h)
read_behind (suc m) ns (b ∷ bs) (suc n) size h = read_behind m ns bs n size (shorter m (length ns) n h)
  where
    shorter : (m k n : ℕ) → suc m + k ≤ suc n → m + k ≤ n
    shorter m k n h = omega (arith, h)

-- the first so many bytes
first_kept : (m size : ℕ) (ns bs : List ℕ) → size ≤ m → take size (with_bytes m ns bs) ≡ take size bs
first_kept m zero ns bs h = refl
first_kept zero (suc size) ns bs h = absurd (none_left size h)
first_kept (suc m) (suc size) ns [] h = refl
first_kept (suc m) (suc size) ns (b ∷ bs) h = ap (λ (z : List ℕ). b ∷ z) (first_kept m size ns bs (not_longer size m h))

read_before : (m : ℕ) (ns bs : List ℕ) (n size : ℕ) → n + size ≤ m → read_bytes (with_bytes m ns bs) n size ≡ read_bytes bs n size
read_before m ns bs zero size h = ap number_of (first_kept m size ns bs (plain size m h))
  where
    plain : (n m : ℕ) → 0 + n ≤ m → n ≤ m
    plain n m h = omega (arith, h)
read_before zero ns bs (suc n) size h = absurd (none n size h)
  where
    none : (n k : ℕ) → suc n + k ≤ 0 → ⊥
    none n k h = omega (arith, h)
read_before (suc m) ns [] (suc n) size h = refl
read_before (suc m) ns (b ∷ bs) (suc n) size h = read_before m ns bs n size (shorter n size m h)
  where
    shorter : (n k m : ℕ) → suc n + k ≤ suc m → n + k ≤ m
    shorter n k m h = omega (arith, h)

pub read_apart : (m k v : ℕ) (bs : List ℕ) (n size : ℕ) → (m + k ≤ n) ⊎ (n + size ≤ m)
    → read_bytes (with_bytes m (bytes_of k v) bs) n size ≡ read_bytes bs n size
read_apart m k v bs n size (inl h) = read_behind m (bytes_of k v) bs n size (subst (λ z. m + z ≤ n) (sym (bytes_length k v)) h)
read_apart m k v bs n size (inr h) = read_before m (bytes_of k v) bs n size h
