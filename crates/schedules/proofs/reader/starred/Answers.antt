use Rattle.std.proofs.Common.{◌≡◌, ◌∙◌, ◌++◌, ◌∷◌, sym, arith}
use Rattle.std.specs.Fmt.{decimal}
use Rattle.schedules.proofs.Reading.{same_tail, star_read}
use Rattle.schedules.proofs.reader.starred.Goals as goal

pub returns-then-number-lt2 : goal.returns-then-number-lt2
returns-then-number-lt2 c n rest b e =
    let digits : c.in-Some.digits.now ≡ decimal n ++ 10 ∷ rest = same_tail 42 42 _ _ (sym c.in-Some.ensures ∙ e) in
    let same = star_read c.in-Some.digits.now rest c.in-Some-number_at.number.rest.now 4000000 n c.in-Some-number_at.number.value
    (omega arith) c.in-Some-number_at.ensures b.1 digits in
    omega (arith, same.number, b.0)

pub returns-in-None : goal.returns-in-None
returns-in-None c n rest b e =
    let digits : c.in-Some.digits.now ≡ decimal n ++ 10 ∷ rest = same_tail 42 42 _ _ (sym c.in-Some.ensures ∙ e) in
    let same = star_read c.in-Some.digits.now rest c.in-Some-number_at.number.rest.now 4000000 n c.in-Some-number_at.number.value
    (omega arith) c.in-Some-number_at.ensures b.1 digits in
    c.in-None.ensures rest same.rest
