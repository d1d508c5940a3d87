-- Numbers as bytes.
use Rattle.std.proofs.Common.{◌≡◌, ◌<◌, ◌≤◌, ◌⊎◌, inl, inr, ℕ, zero, suc, ◌+◌, ◌*◌, ◌/◌, ◌%◌, ◌^◌, pos, List, refl, sym, ap, ◌∙◌, subst, arith}
use Rattle.std.specs.Prelude.{slice_set, slice_index_or, unsigned_abs}
use Rattle.std.proofs.lemmas.Grind.{pow_more}
use Rattle.tx_ints.specs.declared.kinds.IntKind.{IntKind}
use Rattle.tx_ints.specs.declared.kinds.IntKind.TheVariants.{Char, SChar, UChar, Short, UShort, Int, UInt, Long, ULong, LLong, ULLong}
use Rattle.tx_ints.specs.Words.{value_of_word}
use Rattle.tx_ints.proofs.ConversionLaws.{converts_modulo}
use Rattle.tx_code.specs.Meaning.{bits_of, put_bytes, get_bytes}

-- ---- the bytes of a word as a number of a kind

abbrev Has : ℕ → ℕ → IntKind → Type 0
Has w n k = n ≡ bits_of k (value_of_word k w)

pub one_byte : (w : ℕ) (k : IntKind) → (k ≡ Char) ⊎ ((k ≡ SChar) ⊎ (k ≡ UChar)) → w % 256 ≡ bits_of k (value_of_word k w)
one_byte w k (inl e) = subst (Has w (w % 256)) (sym e) (sym (ap unsigned_abs (converts_modulo Char (pos w) (λ e. cc))))
one_byte w k (inr (inl e)) = subst (Has w (w % 256)) (sym e) (sym (ap unsigned_abs (converts_modulo SChar (pos w) (λ e. cc))))
one_byte w k (inr (inr e)) = subst (Has w (w % 256)) (sym e) (sym (ap unsigned_abs (converts_modulo UChar (pos w) (λ e. cc))))

pub two_bytes : (w : ℕ) (k : IntKind) → (k ≡ Short) ⊎ (k ≡ UShort) → w % 65536 ≡ bits_of k (value_of_word k w)
two_bytes w k (inl e) = subst (Has w (w % 65536)) (sym e) (sym (ap unsigned_abs (converts_modulo Short (pos w) (λ e. cc))))
two_bytes w k (inr e) = subst (Has w (w % 65536)) (sym e) (sym (ap unsigned_abs (converts_modulo UShort (pos w) (λ e. cc))))

pub four_bytes : (w : ℕ) (k : IntKind) → (k ≡ Int) ⊎ (k ≡ UInt) → w % 4294967296 ≡ bits_of k (value_of_word k w)
four_bytes w k (inl e) = subst (Has w (w % 4294967296)) (sym e) (sym (ap unsigned_abs (converts_modulo Int (pos w) (λ e. cc))))
four_bytes w k (inr e) = subst (Has w (w % 4294967296)) (sym e) (sym (ap unsigned_abs (converts_modulo UInt (pos w) (λ e. cc))))

whole : (w : ℕ) → w < 2 ^ 64 → w ≡ w % 18446744073709551616
whole w h = omega arith

pub eight_bytes : (w : ℕ) (k : IntKind) → w < 2 ^ 64 → (k ≡ Long) ⊎ ((k ≡ ULong) ⊎ ((k ≡ LLong) ⊎ (k ≡ ULLong))) → w ≡ bits_of k (value_of_word k w)
eight_bytes w k h (inl e) = subst (Has w w) (sym e) (whole w h ∙ sym (ap unsigned_abs (converts_modulo Long (pos w) (λ e. cc))))
eight_bytes w k h (inr (inl e)) = subst (Has w w) (sym e) (whole w h ∙ sym (ap unsigned_abs (converts_modulo ULong (pos w) (λ e. cc))))
eight_bytes w k h (inr (inr (inl e))) = subst (Has w w) (sym e) (whole w h ∙ sym (ap unsigned_abs (converts_modulo LLong (pos w) (λ e. cc))))
eight_bytes w k h (inr (inr (inr e))) = subst (Has w w) (sym e) (whole w h ∙ sym (ap unsigned_abs (converts_modulo ULLong (pos w) (λ e. cc))))

-- ---- one byte more

pub put_more : (bs : List ℕ) (p q n m v : ℕ) → n ≡ suc m → q ≡ p + 1 → put_bytes bs p n v ≡ put_bytes (slice_set bs p (v % 256)) q m (v / 256)
unfolding put_bytes
put_more bs p q n m v e h = ap (λ z. put_bytes bs p z v) e ∙ ap (λ z. put_bytes (slice_set bs p (v % 256)) z m (v / 256)) (sym h)

pub put_none : (bs : List ℕ) (p n v : ℕ) → n ≡ 0 → put_bytes bs p n v ≡ bs
unfolding put_bytes
put_none bs p n v e = ap (λ z. put_bytes bs p z v) e

pub get_none : (bs : List ℕ) (p : ℕ) → 0 ≡ get_bytes bs p 0
unfolding get_bytes
get_none bs p = refl

pub get_more : (bs : List ℕ) (p q i value byte : ℕ) → value ≡ get_bytes bs q i → q ≡ p + 1 → byte ≡ slice_index_or bs p 0
    → value * 256 + byte ≡ get_bytes bs p (i + 1)
unfolding get_bytes
get_more bs p q i value byte e h b =
    let s : suc i ≡ i + 1 = omega arith in
    let v : value ≡ get_bytes bs (p + 1) i = e ∙ ap (λ z. get_bytes bs z i) h in
    let t : value * 256 + byte ≡ slice_index_or bs p 0 + 256 * get_bytes bs (p + 1) i = omega arith in
    t ∙ ap (get_bytes bs p) s

pub small : (i : ℕ) → i < 8 → 256 ^ i ≤ 72057594037927936
small zero h = omega arith
small (suc zero) h = omega arith
small (suc (suc zero)) h = omega arith
small (suc (suc (suc zero))) h = omega arith
small (suc (suc (suc (suc zero)))) h = omega arith
small (suc (suc (suc (suc (suc zero))))) h = omega arith
small (suc (suc (suc (suc (suc (suc zero)))))) h = omega arith
small (suc (suc (suc (suc (suc (suc (suc zero))))))) h = omega arith
small (suc (suc (suc (suc (suc (suc (suc (suc i)))))))) h = absurd (omega arith)

pub bound_more : (i value byte : ℕ) → value < 256 ^ i → byte < 256 → value * 256 + byte < 256 ^ (i + 1)
bound_more i value byte h b = omega (arith, pow_more 256 i)
