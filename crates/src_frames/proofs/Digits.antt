-- The bytes of a number, one at a time.
use Rattle.std.proofs.Common.{◌≡◌, ◌∙◌, ℕ, zero, suc, ◌+◌, ◌-◌, ◌*◌, ◌/◌, ◌%◌, ◌^◌, ◌<◌, ◌≤◌, List, [], ◌∷◌, get_or, take, drop, sym, ap, refl, arith}
use Rattle.std.specs.Prelude.{slice_set}
use Rattle.std.proofs.Math.Nat.{pow-le-pow_right}
use Rattle.std.proofs.lemmas.Nat.{pow_pos, pow-add}
use Rattle.src_mean.specs.Exceptions.{bytes_of, with_bytes, number_of, read_bytes}

put_first : (n x : ℕ) (ns bs : List ℕ) → with_bytes n (x ∷ ns) bs ≡ with_bytes (suc n) ns (slice_set bs n x)
put_first zero x ns [] = refl
put_first zero x ns (b ∷ bs) = refl
put_first (suc n) x ns [] = refl
put_first (suc n) x ns (b ∷ bs) = ap (λ z. b ∷ z) (put_first n x ns bs)

put_none : (n : ℕ) (bs : List ℕ) → with_bytes n [] bs ≡ bs
put_none zero bs = refl
put_none (suc n) [] = refl
put_none (suc n) (b ∷ bs) = ap (λ z. b ∷ z) (put_none n bs)

-- of the bytes that are put from an offset on, one more was put
pub put_next : (offset i size left : ℕ) (out others bs : List ℕ) → i < size → others ≡ slice_set out (offset + i) (left % 256)
    → with_bytes (offset + i) (bytes_of (size - i) left) out ≡ bs → with_bytes (offset + (i + 1)) (bytes_of (size - (i + 1)) (left / 256)) others ≡ bs
put_next offset i size left out others bs h e k =
    let m : ℕ = size - (i + 1) in
    let one_more : size - i ≡ suc m = omega arith in
    let place : offset + (i + 1) ≡ suc (offset + i) = omega arith in
    ap (λ z. with_bytes z (bytes_of m (left / 256)) others) place
    ∙ ap (λ z. with_bytes (suc (offset + i)) (bytes_of m (left / 256)) z) e
    ∙ sym (put_first (offset + i) (left % 256) (bytes_of m (left / 256)) out)
    ∙ ap (λ z. with_bytes (offset + i) (bytes_of z left) out) (sym one_more)
    ∙ k

-- all were put
pub put_all : (offset i size left : ℕ) (out bs : List ℕ) → i ≡ size → with_bytes (offset + i) (bytes_of (size - i) left) out ≡ bs → out ≡ bs
put_all offset i size left out bs e k =
    let past : size - i ≡ 0 = omega arith in
    sym (put_none (offset + i) out) ∙ ap (λ z. with_bytes (offset + i) (bytes_of z left) out) (sym past) ∙ k

number_next : (xs : List ℕ) (j n : ℕ) → number_of (take (suc n) (drop j xs)) ≡ get_or xs j 0 + 256 * number_of (take n (drop (suc j) xs))
number_next [] zero zero = refl
number_next [] zero (suc n) = refl
number_next [] (suc j) zero = refl
number_next [] (suc j) (suc n) = refl
number_next (x ∷ xs) zero n = refl
number_next (x ∷ xs) (suc j) n = number_next xs j n

number_small : (xs : List ℕ) → ((k : ℕ) → get_or xs k 0 < 256) → (n j : ℕ) → number_of (take n (drop j xs)) < 2 ^ (8 * n)
number_small xs small zero j = pow_pos (8 * 0)
number_small xs small (suc n) j =
    let size : 8 * suc n ≡ 8 + 8 * n = omega arith in
    let power : 2 ^ (8 * suc n) ≡ 256 * 2 ^ (8 * n) = ap (λ z. 2 ^ z) size ∙ pow-add 2 8 (8 * n) in
    let next : number_of (take (suc n) (drop j xs)) ≡ get_or xs j 0 + 256 * number_of (take n (drop (suc j) xs)) = number_next xs j n in
    let rest : number_of (take n (drop (suc j) xs)) < 2 ^ (8 * n) = number_small xs small n (suc j) in
    let here : get_or xs j 0 < 256 = small j in
    omega arith

-- a number of which so many bytes were read, with the next one, which does not wrap
pub read_next : (xs : List ℕ) (offset size i word byte next : ℕ) → ((k : ℕ) → get_or xs k 0 < 256) → size ≤ 8 → i < size
    → byte ≡ get_or xs (offset + (size - 1 - i)) 0 → next ≡ (word * 256 % 2 ^ 64 + byte) % 2 ^ 64 → word ≡ number_of (take i (drop (offset + (size - i)) xs))
    → next ≡ number_of (take (i + 1) (drop (offset + (size - (i + 1))) xs))
read_next xs offset size i word byte next small few h b e k =
    let j : ℕ = offset + (size - 1 - i) in
    let from : offset + (size - i) ≡ suc j = omega arith in
    let to : offset + (size - (i + 1)) ≡ j = omega arith in
    let more : i + 1 ≡ suc i = omega arith in
    let bound : number_of (take i (drop (offset + (size - i)) xs)) < 2 ^ (8 * i) = number_small xs small i (offset + (size - i)) in
    let low : 8 * i ≤ 56 = omega arith in
    let most : 2 ^ (8 * i) ≤ 2 ^ 56 = pow-le-pow_right {n = 2} (omega arith) low in
    let under : word < 2 ^ 56 = omega arith in
    let here : get_or xs j 0 < 256 = small j in
    let byte_small : byte < 256 = omega arith in
    let plain : next ≡ byte + 256 * word = omega arith in
    let split : number_of (take (suc i) (drop j xs)) ≡ get_or xs j 0 + 256 * number_of (take i (drop (suc j) xs)) = number_next xs j i in
    let there : word ≡ number_of (take i (drop (suc j) xs)) = k ∙ ap (λ z. number_of (take i (drop z xs))) from in
    let turned : number_of (take (i + 1) (drop (offset + (size - (i + 1))) xs)) ≡ number_of (take (suc i) (drop j xs)) =
    ap (λ z. number_of (take z (drop (offset + (size - (i + 1))) xs))) more ∙ ap (λ z. number_of (take (suc i) (drop z xs))) to in
    omega arith

-- all were read
pub read_all : (xs : List ℕ) (offset size i word : ℕ) → i ≡ size → word ≡ number_of (take i (drop (offset + (size - i)) xs)) → word ≡ read_bytes xs offset size
read_all xs offset size i word e k =
    let from : offset + (size - i) ≡ offset = omega arith in
    k ∙ ap (λ z. number_of (take i (drop z xs))) from ∙ ap (λ z. number_of (take z (drop offset xs))) e
