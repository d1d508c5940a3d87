use Rattle.std.proofs.Common.{sym, ◌∙◌}
use Rattle.cpp_lex.proofs.IntEnds.{decimal_end, prefixed_end, octal_end}
use Rattle.cpp_lex.proofs.ints.literal_end.Goals as goal

pub returns-then-byte-ne48 : goal.returns-then-byte-ne48
returns-then-byte-ne48 c = decimal_end c.args.text.now c.args.from (λ e. c.if-byte-ne48.true (c.byte.ensures.is ∙ e)) c.digits_end.result c.digits_end.ensures

pub returns-in-Some : goal.returns-in-Some
returns-in-Some c = prefixed_end c.args.text.now c.args.from c.in-Some.end (sym c.byte.ensures.is ∙ c.if-byte-ne48.false) c.in-Some.ensures

pub returns-in-None : goal.returns-in-None
returns-in-None c = octal_end c.args.text.now c.args.from
    (sym c.byte.ensures.is ∙ c.if-byte-ne48.false) c.in-None.ensures c.digits_end-in-None.result c.digits_end-in-None.ensures
