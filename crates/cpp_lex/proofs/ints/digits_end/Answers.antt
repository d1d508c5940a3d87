use Rattle.std.proofs.Common.{arith, ◌≡◌, ◌+◌, ◌<◌, ◌≤◌, length, slice_index, true, false}
use Rattle.cpp_lex.specs.Bytes.{is_digit}
use Rattle.cpp_lex.specs.Ints.{one, more, marked}
use Rattle.cpp_lex.proofs.IntEnds.{end_is_no_digit, end_is_no_mark, digits_furthest, no_digits}
use Rattle.cpp_lex.proofs.ints.digits_end.Goals as goal
use Rattle.cpp_lex.proofs.ints.digits_end.Goals.{else-text-at-eq39-via-then-text-at-eq39+else-is_digit-2, else-text-at-eq39-via-else-text-at-eq39}

pub returns-then-not-is_digit : goal.returns-then-not-is_digit
returns-then-not-is_digit c = λ end ds. no_digits c.args.base c.args.text.now c.args.from end (cc) ds

pub digits-init : goal.digits-init
digits-init c =
    let digit : is_digit c.args.base (slice_index c.args.text.now c.args.from) ≡ true = cc in
    let high : 48 ≤ c.byte.result = c.is_digit.ensures.high c.if-not-is_digit.false in
    let here : c.args.from < length c.args.text.now = c.byte.ensures.there (omega arith) in
    record { digits = one digit; inside = omega arith }

pub digits-preserved-then-is_digit : goal.digits-preserved-then-is_digit
digits-preserved-then-is_digit c =
    let digit : is_digit c.args.base (slice_index c.args.text.now c.digits.at) ≡ true = cc in
    record { digits = more c.digits.invariant.digits digit; inside = omega arith }

pub digits-preserved : goal.digits-preserved
digits-preserved c =
    let digit : is_digit c.args.base (slice_index c.args.text.now (c.digits.at + 1)) ≡ true = cc in
    let high : 48 ≤ c.byte-then-text-at-eq39.result = c.is_digit-then-text-at-eq39.ensures.high c.if-is_digit-2.true in
    let here : c.digits.at + 1 < length c.args.text.now = c.byte-then-text-at-eq39.ensures.there (omega arith) in
    record { digits = marked c.digits.invariant.digits c.if-text-at-eq39.true digit; inside = omega arith }

pub returns-else-text-at-eq39 : goal.returns-else-text-at-eq39
returns-else-text-at-eq39 c = record {
  reads = c.digits.invariant.digits;
  furthest = λ end ds.
      let no_digit : is_digit c.args.base (slice_index c.args.text.now c.digits.at) ≡ false = cc in
      digits_furthest c.args.base c.args.text.now c.args.from c.digits.at c.digits.invariant.digits no_digit
      (λ mark. elim c.else-text-at-eq39.branch [
        | else-text-at-eq39-via-then-text-at-eq39+else-is_digit-2 w ↦ let no_next : is_digit c.args.base (slice_index c.args.text.now (c.digits.at + 1))
            ≡ false = cc in no_next
        | else-text-at-eq39-via-else-text-at-eq39 w ↦ absurd (w.if-text-at-eq39.false mark)
      ])
      end ds;
}

pub returns : goal.returns
returns c = record {
  reads = c.digits.invariant.digits;
  furthest = digits_furthest c.args.base c.args.text.now c.args.from c.digits.at c.digits.invariant.digits
      (end_is_no_digit c.args.base c.args.text.now c.digits.at c.digits-test.false)
      (λ mark. absurd (end_is_no_mark c.args.text.now c.digits.at c.digits-test.false mark));
}
