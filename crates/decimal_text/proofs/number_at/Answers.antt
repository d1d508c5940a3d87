use Rattle.std.proofs.Common.{◌≡◌, ◌<◌, ◌∙◌, ◌⊎◌, ap, sym, subst, arith, get_or, length, take, drop, true, true≢false, ap₂, ◌++◌}
use Rattle.std.specs.Char.{is_ascii_digit}
use Rattle.std.specs.Str.{all_ascii_digits}
use Rattle.std.proofs.lemmas.List.Sums.{prefix_len-le-length}
use Rattle.decimal_text.specs.Number.{read_on, BeginsWith}
use Rattle.decimal_text.proofs.Numbers.{front, back, front_digits, not_padded, too_large, is_written}
use Rattle.decimal_text.proofs.number_at.Goals as goal

pub split_at-requires : goal.split_at-requires
split_at-requires c = rw c.digits_at.ensures (prefix_len-le-length is_ascii_digit c.args.text.now)

pub value_of-requires : goal.value_of-requires
value_of-requires c =
    let digits : c.split_at.result.0.now ≡ front c.args.text.now = c.split_at.ensures.front ∙ ap (λ k. take k c.args.text.now) c.digits_at.ensures in
    subst (λ ds. all_ascii_digits ds ≡ true) (sym digits) (front_digits c.args.text.now)

pub returns-then-is_padded : goal.returns-then-is_padded
returns-then-is_padded c =
    let digits : c.split_at.result.0.now ≡ front c.args.text.now = c.split_at.ensures.front ∙ ap (λ k. take k c.args.text.now) c.digits_at.ensures in
    not_padded c.args.text.now c.args.most (omega arith)
    (subst (λ ds. (length ds ≡ 0) ⊎ ((1 < length ds) × (get_or ds 0 0 ≡ 48))) digits (c.is_padded.ensures.0 c.if-is_padded.true))

pub returns-in-None : goal.returns-in-None
returns-in-None c =
    let digits : c.split_at.result.0.now ≡ front c.args.text.now = c.split_at.ensures.front ∙ ap (λ k. take k c.args.text.now) c.digits_at.ensures in
    too_large c.args.text.now c.args.most (omega arith) (subst (λ ds. c.args.most < read_on 0 ds) digits c.in-None.ensures)

pub returns-in-Some : goal.returns-in-Some
returns-in-Some c =
    let digits : c.split_at.result.0.now ≡ front c.args.text.now = c.split_at.ensures.front ∙ ap (λ k. take k c.args.text.now) c.digits_at.ensures in
    let behind : c.split_at.result.1.now ≡ back c.args.text.now = c.split_at.ensures.back ∙ ap (λ k. drop k c.args.text.now) c.digits_at.ensures in
    subst (BeginsWith c.args.text.now c.args.most c.in-Some.value) (sym behind)
    (is_written c.args.text.now c.args.most c.in-Some.value (omega arith)
    (λ p. true≢false (sym (c.is_padded.ensures.1 (subst (λ ds. (length ds ≡ 0) ⊎ ((1 < length ds) × (get_or ds 0 0 ≡ 48))) (sym digits) p))
    ∙ c.if-is_padded.false))
    (c.in-Some.ensures.0 ∙ ap (read_on 0) digits) c.in-Some.ensures.1 (c.split_at.ensures.by_index.0 ∙ ap₂ (λ x y. x ++ y) digits behind))
