use Rattle.std.proofs.Common.{refl}
use Rattle.cpp_syntax.specs.declared.terminal.Terminal.TheVariants as terminal
use Rattle.cpp_syntax.specs.Terminals.{colon}
use Rattle.cpp_syntax.proofs.SingleTerminals.{passed, refused}
use Rattle.cpp_syntax.proofs.LongestMatches.{word_none, seq_none}
use Rattle.cpp_syntax.proofs.Readers.{reads_taken, reads_left_out}
use Rattle.cpp_parse_expr.proofs.ReaderAnswers.{word_and, none_second}
use Rattle.cpp_parse.proofs.constructors.member_initializers.Goals as goal

pub returns-then-not-is_at : goal.returns-then-not-is_at
returns-then-not-is_at c =
    reads_left_out (seq_none (word_none (refused colon terminal.Colon refl _ (c.if-not-is_at.ensures.no refl)))) c.requires.here c.expected_at.ensures

pub returns-in_default : goal.returns-in_default
returns-in_default c =
    let x = rw c.in_default.is at c.in_ok-next.ensures in
    reads_left_out (none_second x.1) c.requires.here (c.cut.ensures _ _ c.checkpoint-mark.ensures (x.0).gained)

pub returns : goal.returns
returns c =
    reads_taken (word_and (passed colon terminal.Colon refl _ (c.if-not-is_at.ensures.yes refl)) (c.if-not-is_at.ensures.inside refl refl)
    (rw c.in-Some.is at c.in_ok-next.ensures) refl refl) refl
