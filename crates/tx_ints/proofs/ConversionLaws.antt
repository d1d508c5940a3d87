-- The laws of conversions and promotions.
use Rattle.std.proofs.Common.{◌≡◌, ◌≢◌, ◌⊎◌, suc, zero, ℤ, pos, negsuc, ap, sym, ◌∙◌, refl, arith, true, false, inl, inr, if◌then◌else◌}
use Rattle.std.specs.Prelude.{Bool as Test}
use Rattle.std.proofs.lemmas.Int.{ints}
use Rattle.std.specs.Int.{int_rem_euclid}
use Rattle.std.specs.Ordering.{int_eq}
use Rattle.tx_ints.specs.declared.kinds.IntKind.{IntKind}
use Rattle.tx_ints.specs.declared.kinds.IntKind.TheVariants.{Bool, Char, SChar, UChar, Short, UShort, Int, UInt, Long, ULong, LLong, ULLong}
use Rattle.tx_ints.specs.Integers.{InRange, modulus, reduced, convert_of, promote_of, common_of}
use Rattle.tx_ints.specs.Laws.{ConvertsIntoRange, ConvertKeeps, ConvertTwice, ConvertsModulo, ConvertOnly, ConvertSame, PromoteTwice, UsualPromoted}
use Rattle.tx_ints.specs.Laws.{UsualTurned}
use Rattle.tx_ints.proofs.Modulo.{turns_back, turns_same, rem_same, many, reduced_in, reduced_is, reduced_turns}
use Rattle.tx_ints.proofs.Values.{reduced_kept, reduced_same}

-- but for bool, a conversion is a reduction
pub converts : (k : IntKind) (v : ℤ) → k ≢ Bool → convert_of k v ≡ reduced k v
converts Bool v h = absurd (h refl)
converts Char v h = refl
converts SChar v h = refl
converts UChar v h = refl
converts Short v h = refl
converts UShort v h = refl
converts Int v h = refl
converts UInt v h = refl
converts Long v h = refl
converts ULong v h = refl
converts LLong v h = refl
converts ULLong v h = refl

bool_in : (t : Test) → InRange Bool (if t then pos 0 else pos 1)
bool_in true = record { from_least = omega (arith, ints); to_greatest = omega (arith, ints) }
bool_in false = record { from_least = omega (arith, ints); to_greatest = omega (arith, ints) }

pub converts_into_range : ConvertsIntoRange
converts_into_range Bool v = bool_in (int_eq v (pos 0))
converts_into_range Char v = reduced_in Char v
converts_into_range SChar v = reduced_in SChar v
converts_into_range UChar v = reduced_in UChar v
converts_into_range Short v = reduced_in Short v
converts_into_range UShort v = reduced_in UShort v
converts_into_range Int v = reduced_in Int v
converts_into_range UInt v = reduced_in UInt v
converts_into_range Long v = reduced_in Long v
converts_into_range ULong v = reduced_in ULong v
converts_into_range LLong v = reduced_in LLong v
converts_into_range ULLong v = reduced_in ULLong v

pub zero_or_one : (v : ℤ) → InRange Bool v → (v ≡ pos 0) ⊎ (v ≡ pos 1)
zero_or_one (pos zero) h = inl refl
zero_or_one (pos (suc zero)) h = inr refl
zero_or_one (pos (suc (suc n))) h = absurd (omega (arith, ints, h.to_greatest))
zero_or_one (negsuc n) h = absurd (omega (arith, ints, h.from_least))

bool_keeps : (v : ℤ) → (v ≡ pos 0) ⊎ (v ≡ pos 1) → convert_of Bool v ≡ v
bool_keeps v (inl e) = rw e refl
bool_keeps v (inr e) = rw e refl

pub convert_keeps : ConvertKeeps
convert_keeps Bool v h = bool_keeps v (zero_or_one v h)
convert_keeps Char v h = reduced_kept Char v h
convert_keeps SChar v h = reduced_kept SChar v h
convert_keeps UChar v h = reduced_kept UChar v h
convert_keeps Short v h = reduced_kept Short v h
convert_keeps UShort v h = reduced_kept UShort v h
convert_keeps Int v h = reduced_kept Int v h
convert_keeps UInt v h = reduced_kept UInt v h
convert_keeps Long v h = reduced_kept Long v h
convert_keeps ULong v h = reduced_kept ULong v h
convert_keeps LLong v h = reduced_kept LLong v h
convert_keeps ULLong v h = reduced_kept ULLong v h

pub convert_twice : ConvertTwice
convert_twice k v = convert_keeps k (convert_of k v) (converts_into_range k v)

pub converts_modulo : ConvertsModulo
converts_modulo k v h =
    ap (λ (z : ℤ). int_rem_euclid z (pos (modulus k))) (converts k v h)
    ∙ rem_same (modulus k) (reduced k v) v (many k) (turns_back (modulus k) v (reduced k v) (reduced_turns k v))

pub convert_only : ConvertOnly
convert_only k v r h within e = converts k v h ∙ reduced_is k v r within (turns_same (modulus k) v r (many k) (sym e))

pub convert_same : ConvertSame
convert_same k y z h e = converts k y h ∙ reduced_same k y z (turns_same (modulus k) y z (many k) e) ∙ sym (converts k z h)

-- ---- promotions

pub promote_twice : PromoteTwice
promote_twice Bool = refl
promote_twice Char = refl
promote_twice SChar = refl
promote_twice UChar = refl
promote_twice Short = refl
promote_twice UShort = refl
promote_twice Int = refl
promote_twice UInt = refl
promote_twice Long = refl
promote_twice ULong = refl
promote_twice LLong = refl
promote_twice ULLong = refl

-- what holds at each promoted kind holds at what each kind is promoted to
by_promoted : (P : IntKind → Type 0) → P Int → P UInt → P Long → P ULong → P LLong → P ULLong → (k : IntKind) → P (promote_of k)
by_promoted P i ui l ul ll ull Bool = i
by_promoted P i ui l ul ll ull Char = i
by_promoted P i ui l ul ll ull SChar = i
by_promoted P i ui l ul ll ull UChar = i
by_promoted P i ui l ul ll ull Short = i
by_promoted P i ui l ul ll ull UShort = i
by_promoted P i ui l ul ll ull Int = i
by_promoted P i ui l ul ll ull UInt = ui
by_promoted P i ui l ul ll ull Long = l
by_promoted P i ui l ul ll ull ULong = ul
by_promoted P i ui l ul ll ull LLong = ll
by_promoted P i ui l ul ll ull ULLong = ull

pub usual_promoted : UsualPromoted
usual_promoted a b =
    by_promoted (λ (p : IntKind). promote_of (common_of p (promote_of b)) ≡ common_of p (promote_of b))
    (by_promoted (λ (q : IntKind). promote_of (common_of Int q) ≡ common_of Int q) refl refl refl refl refl refl b)
    (by_promoted (λ (q : IntKind). promote_of (common_of UInt q) ≡ common_of UInt q) refl refl refl refl refl refl b)
    (by_promoted (λ (q : IntKind). promote_of (common_of Long q) ≡ common_of Long q) refl refl refl refl refl refl b)
    (by_promoted (λ (q : IntKind). promote_of (common_of ULong q) ≡ common_of ULong q) refl refl refl refl refl refl b)
    (by_promoted (λ (q : IntKind). promote_of (common_of LLong q) ≡ common_of LLong q) refl refl refl refl refl refl b)
    (by_promoted (λ (q : IntKind). promote_of (common_of ULLong q) ≡ common_of ULLong q) refl refl refl refl refl refl b)
    a

pub usual_turned : UsualTurned
usual_turned a b =
    by_promoted (λ (p : IntKind). common_of p (promote_of b) ≡ common_of (promote_of b) p)
    (by_promoted (λ (q : IntKind). common_of Int q ≡ common_of q Int) refl refl refl refl refl refl b)
    (by_promoted (λ (q : IntKind). common_of UInt q ≡ common_of q UInt) refl refl refl refl refl refl b)
    (by_promoted (λ (q : IntKind). common_of Long q ≡ common_of q Long) refl refl refl refl refl refl b)
    (by_promoted (λ (q : IntKind). common_of ULong q ≡ common_of q ULong) refl refl refl refl refl refl b)
    (by_promoted (λ (q : IntKind). common_of LLong q ≡ common_of q LLong) refl refl refl refl refl refl b)
    (by_promoted (λ (q : IntKind). common_of ULLong q ≡ common_of q ULLong) refl refl refl refl refl refl b)
    a
