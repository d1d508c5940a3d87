-- The laws of operators.
use Rattle.std.proofs.Common.{◌≡◌, ◌⊎◌, ℕ, ◌^◌, ℤ, pos, negsuc, ◌≤ℤ◌, ap, sym, ◌∙◌, refl, arith, true, false, Ok, Err, Option, Some, None, inl, inr, subst}
use Rattle.std.proofs.Common.{if◌then◌else◌, not, ◌&&◌, neg_ℤ, ◌↔◌}
use Rattle.std.specs.Prelude.{Bool as Test, unsigned_abs, int_lt, int_le, int_div, ◌||◌}
use Rattle.std.proofs.lemmas.Int.{ints}
use Rattle.std.specs.Ordering.{int_eq}
use Rattle.tx_ints.specs.declared.kinds.IntKind.{IntKind}
use Rattle.tx_ints.specs.declared.kinds.IntKind.TheVariants.{Bool, Char, SChar, UChar, Short, UShort, Int, UInt, Long, ULong, LLong, ULLong}
use Rattle.tx_ints.specs.declared.kinds.BinOp.TheVariants.{Add, Sub, Mul, Div, Rem, Shl, Shr, And, Xor, Or, Lt, Gt, Le, Ge, Eq, Ne}
use Rattle.tx_ints.specs.declared.kinds.ArithTrap.{ArithTrap}
use Rattle.tx_ints.specs.declared.kinds.ArithTrap.TheVariants.{Overflow, DivideByZero, ShiftRange}
use Rattle.tx_ints.specs.Integers.{InRange, modulus, is_signed, reduced, apply_of, value_of, trapped_or, trap_of, overflow_of, division_trap, is_in_range}
use Rattle.tx_ints.specs.Integers.{is_count, shift_overflow, least, negate_of}
use Rattle.tx_ints.specs.Laws.{AppliesIntoRange, UnsignedTraps, SignedKeeps}
use Rattle.tx_ints.proofs.Modulo.{reduced_in}
use Rattle.tx_ints.proofs.Quotients.{rem_range}
use Rattle.tx_ints.proofs.Shifts.{div_range}
use Rattle.tx_ints.proofs.Values.{reduced_kept, truth_in, in_range}

trapped_in : (t : Option ArithTrap) (k : IntKind) (z v : ℤ) → trapped_or t k z ≡ Ok v → InRange k v
trapped_in (Some trap) k z v h = absurd (cc)
trapped_in None k z v h = let e : reduced k z ≡ v = cc in subst (λ (r : ℤ). InRange k r) e (reduced_in k z)

pub applies_into_range : AppliesIntoRange
unfolding apply_of
applies_into_range op k a b v h = trapped_in (trap_of op k a b) k (value_of op k a b) v h

trap_is : (t : Option ArithTrap) (k : IntKind) (z : ℤ) (trap : ArithTrap) → trapped_or t k z ≡ Err trap → t ≡ Some trap
trap_is (Some x) k z trap h = cc
trap_is None k z trap h = absurd (cc)

unsigned_overflow : (s r : Test) (trap : ArithTrap) → s ≡ false
    → ◌≡◌ {A = Option ArithTrap} (if s && not r then Some Overflow else None) (Some trap) → ⊥
unsigned_overflow true r trap u h = absurd (cc)
unsigned_overflow false r trap u h = absurd (cc)

no_overflow : (k : IntKind) (z : ℤ) (trap : ArithTrap) → is_signed k ≡ false → trapped_or (overflow_of k z) k z ≡ Err trap → ⊥
no_overflow k z trap u h = unsigned_overflow (is_signed k) (is_in_range k z) trap u (trap_is (overflow_of k z) k z trap h)

division_traps : (zero_divisor s r : Test) (trap : ArithTrap) → s ≡ false
    → ◌≡◌ {A = Option ArithTrap} (if zero_divisor then Some DivideByZero else (if s && not r then Some Overflow else None)) (Some trap)
    → (trap ≡ DivideByZero) ⊎ (trap ≡ ShiftRange)
division_traps true s r trap u h = inl (cc)
division_traps false s r trap u h = absurd (unsigned_overflow s r trap u h)

unsigned_division : (k : IntKind) (a b z : ℤ) (trap : ArithTrap) → is_signed k ≡ false → trapped_or (division_trap k a b) k z ≡ Err trap
    → (trap ≡ DivideByZero) ⊎ (trap ≡ ShiftRange)
unsigned_division k a b z trap u h =
    division_traps (int_eq b (pos 0)) (is_signed k) (is_in_range k (int_div a b)) trap u (trap_is (division_trap k a b) k z trap h)

shift_traps : (counts s n : Test) (trap : ArithTrap) → s ≡ false
    → ◌≡◌ {A = Option ArithTrap} (if counts then (if s && n then Some Overflow else None) else Some ShiftRange) (Some trap)
    → (trap ≡ DivideByZero) ⊎ (trap ≡ ShiftRange)
shift_traps true true n trap u h = absurd (cc)
shift_traps true false n trap u h = absurd (cc)
shift_traps false s n trap u h = inr (cc)

unsigned_shift : (k : IntKind) (a b z : ℤ) (trap : ArithTrap) → is_signed k ≡ false
    → trapped_or (if is_count k b then shift_overflow k a z else Some ShiftRange) k z ≡ Err trap → (trap ≡ DivideByZero) ⊎ (trap ≡ ShiftRange)
unsigned_shift k a b z trap u h =
    shift_traps (is_count k b) (is_signed k) (int_lt a (pos 0) || not (int_lt z (pos (modulus k)))) trap u
    (trap_is (if is_count k b then shift_overflow k a z else Some ShiftRange) k z trap h)

right_shift : (counts : Test) (k : IntKind) (z : ℤ) (trap : ArithTrap) → trapped_or (if counts then None else Some ShiftRange) k z ≡ Err trap
    → (trap ≡ DivideByZero) ⊎ (trap ≡ ShiftRange)
right_shift true k z trap h = absurd (cc)
right_shift false k z trap h = inr (cc)

never : (k : IntKind) (z : ℤ) (trap : ArithTrap) → trapped_or None k z ≡ Err trap → ⊥
never k z trap h = absurd (cc)

pub unsigned_traps : UnsignedTraps
unfolding apply_of
unsigned_traps Add k a b trap u h = absurd (no_overflow k (value_of Add k a b) trap u h)
unsigned_traps Sub k a b trap u h = absurd (no_overflow k (value_of Sub k a b) trap u h)
unsigned_traps Mul k a b trap u h = absurd (no_overflow k (value_of Mul k a b) trap u h)
unsigned_traps Div k a b trap u h = unsigned_division k a b (value_of Div k a b) trap u h
unsigned_traps Rem k a b trap u h = unsigned_division k a b (value_of Rem k a b) trap u h
unsigned_traps Shl k a b trap u h = unsigned_shift k a b (value_of Shl k a b) trap u h
unsigned_traps Shr k a b trap u h = right_shift (is_count k b) k (value_of Shr k a b) trap h
unsigned_traps And k a b trap u h = absurd (never k (value_of And k a b) trap h)
unsigned_traps Xor k a b trap u h = absurd (never k (value_of Xor k a b) trap h)
unsigned_traps Or k a b trap u h = absurd (never k (value_of Or k a b) trap h)
unsigned_traps Lt k a b trap u h = absurd (never k (value_of Lt k a b) trap h)
unsigned_traps Gt k a b trap u h = absurd (never k (value_of Gt k a b) trap h)
unsigned_traps Le k a b trap u h = absurd (never k (value_of Le k a b) trap h)
unsigned_traps Ge k a b trap u h = absurd (never k (value_of Ge k a b) trap h)
unsigned_traps Eq k a b trap u h = absurd (never k (value_of Eq k a b) trap h)
unsigned_traps Ne k a b trap u h = absurd (never k (value_of Ne k a b) trap h)

-- an answer is the value's number, and no trap held
settles : (t : Option ArithTrap) (k : IntKind) (z v : ℤ) → trapped_or t k z ≡ Ok v → (t ≡ None) × (reduced k z ≡ v)
settles (Some trap) k z v h = absurd (cc)
settles None k z v h = (refl, cc)

range_from : (s r : Test) → s ≡ true → ◌≡◌ {A = Option ArithTrap} (if s && not r then Some Overflow else None) None → r ≡ true
range_from true true e h = refl
range_from true false e h = absurd (cc)
range_from false r e h = absurd (cc)

kept_from : (k : IntKind) (z : ℤ) → is_signed k ≡ true → overflow_of k z ≡ None → reduced k z ≡ z
kept_from k z s h = reduced_kept k z (in_range k z (range_from (is_signed k) (is_in_range k z) s h))

kept : (k : IntKind) (z v : ℤ) → is_signed k ≡ true → trapped_or (overflow_of k z) k z ≡ Ok v → v ≡ z
kept k z v s h = let e = settles (overflow_of k z) k z v h in sym e.1 ∙ kept_from k z s e.0

no_zero_divisor : (zero_divisor : Test) (t : Option ArithTrap) → (if zero_divisor then Some DivideByZero else t) ≡ None → t ≡ None
no_zero_divisor true t h = absurd (cc)
no_zero_divisor false t h = h

quotient_kept : (k : IntKind) (a b v : ℤ) → is_signed k ≡ true → trapped_or (division_trap k a b) k (int_div a b) ≡ Ok v → v ≡ int_div a b
quotient_kept k a b v s h =
    let e = settles (division_trap k a b) k (int_div a b) v h in
    sym e.1 ∙ kept_from k (int_div a b) s (no_zero_divisor (int_eq b (pos 0)) (overflow_of k (int_div a b)) e.0)

in_range_kept : (t : Option ArithTrap) (k : IntKind) (z v : ℤ) → InRange k z → trapped_or t k z ≡ Ok v → v ≡ z
in_range_kept t k z v r h = sym (settles t k z v h).1 ∙ reduced_kept k z r

pub signed_keeps : SignedKeeps
unfolding apply_of
signed_keeps Add k a b v s o r h = kept k (value_of Add k a b) v s h
signed_keeps Sub k a b v s o r h = kept k (value_of Sub k a b) v s h
signed_keeps Mul k a b v s o r h = kept k (value_of Mul k a b) v s h
signed_keeps Div k a b v s o r h = quotient_kept k a b v s h
signed_keeps Rem k a b v s o r h = in_range_kept (trap_of Rem k a b) k (value_of Rem k a b) v (rem_range k a b r) h
signed_keeps Shl k a b v s o r h = absurd (o refl)
signed_keeps Shr k a b v s o r h = in_range_kept (trap_of Shr k a b) k (value_of Shr k a b) v (div_range k a (2 ^ unsigned_abs b) r) h
signed_keeps And k a b v s o r h = in_range_kept None k (value_of And k a b) v (reduced_in k _) h
signed_keeps Xor k a b v s o r h = in_range_kept None k (value_of Xor k a b) v (reduced_in k _) h
signed_keeps Or k a b v s o r h = in_range_kept None k (value_of Or k a b) v (reduced_in k _) h
signed_keeps Lt k a b v s o r h = in_range_kept None k (value_of Lt k a b) v (truth_in k (int_lt a b)) h
signed_keeps Gt k a b v s o r h = in_range_kept None k (value_of Gt k a b) v (truth_in k (int_lt b a)) h
signed_keeps Le k a b v s o r h = in_range_kept None k (value_of Le k a b) v (truth_in k (int_le a b)) h
signed_keeps Ge k a b v s o r h = in_range_kept None k (value_of Ge k a b) v (truth_in k (int_le b a)) h
signed_keeps Eq k a b v s o r h = in_range_kept None k (value_of Eq k a b) v (truth_in k (int_eq a b)) h
signed_keeps Ne k a b v s o r h = in_range_kept None k (value_of Ne k a b) v (truth_in k (not (int_eq a b))) h

-- ---- the unary minus

overflows_from : (s r : Test) → ◌≡◌ {A = Option ArithTrap} (if s && not r then Some Overflow else None) (Some Overflow) → (s ≡ true) × (r ≡ false)
overflows_from true true h = absurd (cc)
overflows_from true false h = (refl, refl)
overflows_from false r h = absurd (cc)

turned_out : (h : ℕ) (v : ℤ) → negsuc h ≤ℤ v → v ≤ℤ pos h → int_le (negsuc h) (neg_ℤ v) && int_le (neg_ℤ v) (pos h) ≡ false → v ≡ negsuc h
turned_out h (pos n) low high out = grind (arith, ints)
turned_out h (negsuc n) low high out = grind (arith, ints)

least_from : (k : IntKind) (v : ℤ) → is_signed k ≡ true → InRange k v → is_in_range k (neg_ℤ v) ≡ false → v ≡ least k
least_from Bool v s r h = absurd (cc)
least_from Char v s r h = turned_out 127 v r.from_least r.to_greatest h
least_from SChar v s r h = turned_out 127 v r.from_least r.to_greatest h
least_from UChar v s r h = absurd (cc)
least_from Short v s r h = turned_out 32767 v r.from_least r.to_greatest h
least_from UShort v s r h = absurd (cc)
least_from Int v s r h = turned_out 2147483647 v r.from_least r.to_greatest h
least_from UInt v s r h = absurd (cc)
least_from Long v s r h = turned_out 9223372036854775807 v r.from_least r.to_greatest h
least_from ULong v s r h = absurd (cc)
least_from LLong v s r h = turned_out 9223372036854775807 v r.from_least r.to_greatest h
least_from ULLong v s r h = absurd (cc)

negates_least : (k : IntKind) → is_signed k ≡ true → negate_of k (least k) ≡ Err Overflow
unfolding negate_of
negates_least Bool s = absurd (cc)
negates_least Char s = refl
negates_least SChar s = refl
negates_least UChar s = absurd (cc)
negates_least Short s = refl
negates_least UShort s = absurd (cc)
negates_least Int s = refl
negates_least UInt s = absurd (cc)
negates_least Long s = refl
negates_least ULong s = absurd (cc)
negates_least LLong s = refl
negates_least ULLong s = absurd (cc)

-- the unary minus overflows at the least number of a signed kind alone
pub negate_overflows : (k : IntKind) (v : ℤ) → InRange k v → (negate_of k v ≡ Err Overflow) ↔ ((is_signed k ≡ true) × (v ≡ least k))
unfolding negate_of
negate_overflows k v r = (
  (λ h.
      let out = overflows_from (is_signed k) (is_in_range k (neg_ℤ v)) (trap_is (overflow_of k (neg_ℤ v)) k (neg_ℤ v) Overflow h) in
      (out.0, least_from k v out.0 r out.1)),
  (λ h. ap (negate_of k) h.1 ∙ negates_least k h.0),
)
