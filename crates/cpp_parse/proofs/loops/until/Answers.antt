use Rattle.std.proofs.Common.{refl, arith}
use Rattle.cpp_syntax.specs.declared.terminal.Terminal.TheVariants as terminal
use Rattle.cpp_syntax.specs.Terminals.{while_word, semicolon}
use Rattle.cpp_syntax.proofs.SingleTerminals.{passed, refused}
use Rattle.cpp_syntax.proofs.LongestMatches.{word_none}
use Rattle.cpp_syntax.proofs.Readers.{leaves_same, leaves_both, leaves_read, reads_seq, reads_word, none_behind, none_seq}
use Rattle.cpp_parse_expr.proofs.ReaderAnswers.{word_and, none_second}
use Rattle.cpp_parse.proofs.loops.until.Goals as goal

pub returns-then-not-is_at : goal.returns-then-not-is_at
returns-then-not-is_at c = (leaves_same c.expected_at.ensures, none_seq (word_none (refused while_word terminal.While refl _ (c.if-not-is_at.ensures.no refl))))

pub condition-requires : goal.condition-requires
condition-requires c = let i = c.if-not-is_at.ensures.inside refl refl in omega (arith, i)

pub returns-in_default : goal.returns-in_default
returns-in_default c =
    let x = rw c.in_default.is at c.in_ok-close.ensures in
    (x.0, none_second (none_seq x.1))

pub returns-then-not-is_at-2 : goal.returns-then-not-is_at-2
returns-then-not-is_at-2 c =
    let x = rw c.in-Some.is at c.in_ok-close.ensures in (
      leaves_both (leaves_read x) (leaves_same c.expected_at-then-not-is_at-2.ensures),
      none_second (none_behind x (word_none (refused semicolon terminal.Semicolon refl _ (c.if-not-is_at-2.ensures.no refl))) refl refl refl),
    )

pub returns : goal.returns
returns c =
    let u = passed while_word terminal.While refl _ (c.if-not-is_at.ensures.yes refl) in
    let v = passed semicolon terminal.Semicolon refl _ (c.if-not-is_at-2.ensures.yes refl) in
    word_and u (c.if-not-is_at.ensures.inside refl refl) (reads_seq (rw c.in-Some.is at c.in_ok-close.ensures)
    (reads_word v (c.if-not-is_at-2.ensures.inside refl refl)) refl refl) refl refl
