-- The index of a function among those of its class is counted among their places.
use Rattle.std.proofs.Common.{◌≡◌, ◌∙◌, ◌+◌, ◌≤◌, ◌<◌, nat_lt, ℕ, zero, suc, Bool, true, false, List, [], ◌∷◌, map, Option, Some, None, if◌then◌else◌, refl}
use Rattle.std.proofs.Common.{sym, ap, arith}
use Rattle.std.proofs.lemmas.Bool.{lt-ltb, le-ltb}
use Rattle.elab_make.specs.elab_ctx.Ctx.{func_of}
use Rattle.elab_make.specs.elab_ctx.Places.{places_where, is_member_of, is_number}
use Rattle.elab_make.specs.elab_ctx.declared.env.FuncDecl.{FuncDecl}
use Rattle.elab_make.specs.elab_rules.Calls.{count_before, is_of_class, index_in_class}
use Rattle.elab_make.specs.elab_rules.Initialising.{same_number}
use Rattle.elab_call.specs.Slots.{places_before}

number_is : (n : ℕ) (o : Option ℕ) → is_number n o ≡ same_number n o
number_is n None = refl
number_is n (Some m) = refl

zero_more : (n : ℕ) → 0 + n ≡ n
zero_more n = omega arith

none_step : (k i : ℕ) (rest : List ℕ) (b : Bool) → k ≤ i → places_before k rest ≡ 0 → places_before k (if b then i ∷ rest else rest) ≡ 0
none_step k i rest true h e = ap (λ (z : Bool). (if z then 1 else 0) + places_before k rest) (le-ltb i k h) ∙ zero_more (places_before k rest) ∙ e
none_step k i rest false h e = e

-- places of a list stand at its beginning or behind it
none_before : (n k i : ℕ) (fs : List FuncDecl) → k ≤ i → places_before k (places_where (is_member_of n) i fs) ≡ 0
none_before n k i [] h = refl
none_before n k i (f ∷ fs) h = none_step k i (places_where (is_member_of n) (suc i) fs) (is_number n f.class) h (none_before n k (suc i) fs (omega (arith, h)))

one_step : (k i : ℕ) (rest : List ℕ) (b : Bool) → i < k → places_before k (if b then i ∷ rest else rest) ≡ (if b then 1 else 0) + places_before k rest
one_step k i rest true h = ap (λ (z : Bool). (if z then 1 else 0) + places_before k rest) (lt-ltb i k h)
one_step k i rest false h = sym (zero_more (places_before k rest))

counted : (n i k j : ℕ) (fs : List FuncDecl) → j ≡ i + k
    → places_before j (places_where (is_member_of n) i fs) ≡ count_before (is_of_class n) k (map func_of fs)
counted n i zero j fs e = none_before n j i fs (omega (arith, e))
counted n i (suc k) j [] e = refl
counted n i (suc k) j (f ∷ fs) e =
    one_step j i (places_where (is_member_of n) (suc i) fs) (is_number n f.class) (omega (arith, e))
    ∙ ap (λ (z : ℕ). (if is_number n f.class then 1 else 0) + z) (counted n (suc i) k j fs (omega (arith, e)))
    ∙ ap (λ (b : Bool). (if b then 1 else 0) + count_before (is_of_class n) k (map func_of fs)) (number_is n f.class)

pub index_counted : (n k : ℕ) (fs : List FuncDecl) (places : List ℕ) → places ≡ places_where (is_member_of n) 0 fs
    → places_before k places ≡ index_in_class n k (map func_of fs)
index_counted n k fs places e = ap (places_before k) e ∙ counted n 0 k k fs (omega arith)
