use Rattle.std.proofs.Common.{◌≡◌}
use Rattle.cpp_lex.proofs.QuotedEnds.{letter_escape, by_hex, by_octal}
use Rattle.cpp_lex.proofs.quoted.escape_end.Goals as goal

pub returns-in-Some : goal.returns-in-Some
returns-in-Some c = letter_escape c.args.text.now c.args.from c.in-Some.field-0 (cc) (cc)

pub returns-then-letter-eq120 : goal.returns-then-letter-eq120
returns-then-letter-eq120 c = by_hex c.args.text.now c.args.from (cc) (cc) c.hex_escape_end.result c.hex_escape_end.ensures

pub returns-else-letter-eq120 : goal.returns-else-letter-eq120
returns-else-letter-eq120 c = by_octal c.args.text.now c.args.from (cc) (cc)
    (λ e. let same : c.byte-letter.result ≡ 120 = cc in c.if-letter-eq120.false same) c.octal_escape_end.result c.octal_escape_end.ensures
