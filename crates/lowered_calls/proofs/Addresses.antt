-- Addresses that the check tells from others, and offsets from them.
use Rattle.std.proofs.Common.{ℕ, ◌≡◌, ◌+◌, refl, ap, ◌∙◌, Bool, true, false, cond, ◌==◌, ◌&&◌, arith}
use Rattle.std.specs.Prelude.{◌^◌, nat_lt, List, [], ◌∷◌}
use Rattle.tx_ints.specs.declared.kinds.BinOp.TheVariants.{Add}
use Rattle.tx_ints.specs.declared.kinds.IntKind.TheVariants.{ULong}
use Rattle.tx_code.specs.declared.instr.Instr.TheVariants.{Dup, Push, Bin, Pop}
use Rattle.low_code.specs.Numbers.{kind_number, operator_number}
use Rattle.symbolic_code.specs.Facts.{Fact}
use Rattle.lowered_notes.specs.Straight.{Straight, done, moves, doubled, dropped, pushed, computed}
use Rattle.symbolic_source.specs.Terms.{Term, number, local, sum, converted_to, plus_number}
use Rattle.symbolic_code.specs.Same.{same_term}
use Rattle.symbolic_code.specs.Following.{bare_address}
use Rattle.lowered_notes.proofs.KindNumbers.{both, same_itself}
use Rattle.lowered_steps.specs.Ahead.{IsTold}
use Rattle.lowered_steps.proofs.Words.{told_same}

first_part : (a b : Bool) → a && b ≡ true → a ≡ true
first_part true b e = refl
first_part false b e = e

-- what is no conversion is read as an address as it stands
pub bare_told : (v : Term) → IsTold v → same_term (bare_address v) v ≡ true
bare_told (converted_to kind w) told = absurd told
bare_told v told = told_same v told

chosen_same : (none : Bool) (v : Term) (n : ℕ) → same_term v v ≡ true → same_term (cond none v (sum v (number n))) (cond none v (sum v (number n))) ≡ true
chosen_same true v n same = same
chosen_same false v n same = both (same_term v v) (n == n) same (same_itself n)

offset_so : (v : Term) (n : ℕ) → same_term v v ≡ true → same_term (plus_number v n) (plus_number v n) ≡ true
offset_so (number m) n same = same_itself (m + n)
offset_so (local m) n same = same_itself (m + n)
offset_so (sum a (number m)) n same = both (same_term a a) ((m + n) == (m + n)) (first_part (same_term a a) (m == m) same) (same_itself (m + n))
offset_so v n same = chosen_same (n == 0) v n same

pub offset_told : (v : Term) (n : ℕ) → IsTold v → same_term (plus_number v n) (plus_number v n) ≡ true
offset_told v n told = offset_so v n (told_same v told)

nothing_more : (m : ℕ) → (m == (m + 0)) ≡ true
nothing_more m = let e : m + 0 ≡ m = omega arith in ap (λ (z : ℕ). m == z) e ∙ same_itself m

no_offset_so : (v : Term) → same_term v v ≡ true → same_term v (plus_number v 0) ≡ true
no_offset_so (number m) same = nothing_more m
no_offset_so (local m) same = nothing_more m
no_offset_so (sum a (number m)) same = both (same_term a a) (m == (m + 0)) (first_part (same_term a a) (m == m) same) (nothing_more m)
no_offset_so v same = same

-- an offset of 0 is not written
pub no_offset : (v : Term) → IsTold v → same_term v (plus_number v 0) ≡ true
no_offset v told = no_offset_so v (told_same v told)

-- ---- straight code

-- an address is doubled, and an offset from it computed
pub offset_placed : (known : List Fact) (v : Term) (ws : List Term) (n : ℕ) → nat_lt n (2 ^ 64) ≡ true
    → Straight known (Dup ∷ Push n ∷ Bin (operator_number Add) (kind_number ULong) ∷ []) (v ∷ ws) (plus_number v n ∷ v ∷ ws)
offset_placed known v ws n small = moves (doubled v) (moves (pushed n small) (moves (computed Add v (number n) (plus_number v n) refl) done))

-- at no offset, it is doubled alone
pub address_doubled : (known : List Fact) (v : Term) (ws : List Term) → Straight known (Dup ∷ []) (v ∷ ws) (v ∷ v ∷ ws)
address_doubled known v ws = moves (doubled v) done

-- the address of what is thrown is dropped
pub address_dropped : (known : List Fact) (v : Term) (ws : List Term) → Straight known (Pop ∷ []) (v ∷ ws) ws
address_dropped known v ws = moves (dropped v) done
