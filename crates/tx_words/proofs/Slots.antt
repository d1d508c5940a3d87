-- Numbers in decimal, without leading zeros.
use Rattle.std.proofs.Common.{◌≡◌, ◌≢◌, ◌∙◌, ap, sym, ◌<◌, ◌^◌, ℕ, List, Result, Ok, Err, true, arith, get_or, rules}
use Rattle.std.specs.Fmt.{decimal}
use Rattle.std.specs.Str.{all_ascii_digits}
use Rattle.std.specs.Str.Parse.{ParsesUnsigned, digits_value}
use Rattle.std.proofs.lemmas.Str.Parse.{IsNumeralModel, numerals_by_value, parse_plain}
use Rattle.std.proofs.lemmas.Fmt.{decimal-digits_value, parse-decimal, first_decimal}

pub own : IsNumeralModel (λ ds. all_ascii_digits ds ≡ true) (digits_value 10)
own = numerals_by_value _ (search rules)

-- what is read of digits that begin with no zero
pub written : {E : Type 0} (ds : List ℕ) (n : ℕ) (r : Result ℕ E) → ParsesUnsigned 32 10 ds r → r ≡ Ok n → get_or ds 0 0 ≢ 43 → get_or ds 0 0 ≢ 48
    → ds ≡ decimal n
written {E} ds n (Ok m) p e plus zero =
    let h = parse_plain own {E = E} 32 ds (Ok m) p plus in
    let same : m ≡ n = cc in
    sym (decimal-digits_value own ds h.0.0 h.0.1 (λ z. absurd (zero z)) (omega (arith, h.0.2))) ∙ ap decimal (sym h.1 ∙ same)
written ds n (Err x) p e plus zero = cc

-- a number that is written is read
pub is_read : {E : Type 0} (ds : List ℕ) (n : ℕ) (r : Result ℕ E) → ParsesUnsigned 32 10 ds r → n < 2 ^ 32 → ds ≡ decimal n → r ≡ Ok n
is_read ds n r p small e = parse-decimal 32 n ds r small (omega arith) e p

-- no number begins with a plus or a zero
pub begins : (ds : List ℕ) (n : ℕ) → 0 < n → n < 2 ^ 64 → ds ≡ decimal n → 48 < get_or ds 0 0
begins ds n some small e = rw e (first_decimal n some small)
