use Rattle.std.proofs.Common.{refl}
use Rattle.cpp_syntax.specs.declared.terminal.Terminal.TheVariants as terminal
use Rattle.cpp_syntax.specs.Terminals.{open_paren, close_paren}
use Rattle.cpp_syntax.proofs.SingleTerminals.{passed, refused}
use Rattle.cpp_syntax.proofs.LongestMatches.{word_none, mark_none, seq_none}
use Rattle.cpp_syntax.proofs.Readers.{leaves_same, leaves_both, leaves_read, reads_seq, none_behind}
use Rattle.cpp_parse_expr.proofs.ReaderAnswers.{parsed_err, mark_and, word_and, none_second_mark}
use Rattle.cpp_parse.proofs.constructors.empty_parameters.Goals as goal

pub returns-then-not-is_at : goal.returns-then-not-is_at
returns-then-not-is_at c =
    (leaves_same c.expected_at.ensures, seq_none (mark_none (refused open_paren terminal.OpenParen refl _ (c.if-not-is_at.ensures.no refl))))

pub returns-then-not-is_at-2 : goal.returns-then-not-is_at-2
returns-then-not-is_at-2 c = (
  leaves_both (leaves_read c.in_ok-close.ensures) (leaves_same c.expected_at-then-not-is_at-2.ensures),
  none_second_mark
      (none_behind c.in_ok-close.ensures (seq_none (word_none (refused close_paren terminal.CloseParen refl _ (c.if-not-is_at-2.ensures.no refl))))
      refl refl refl),
)

pub returns-in_err-function_qualifiers : goal.returns-in_err-function_qualifiers
returns-in_err-function_qualifiers c =
    parsed_err _ _ _ _ c.from_residual-in_err-function_qualifiers.result c.from_residual-in_err-function_qualifiers.ensures.0
    (leaves_both (leaves_read c.in_ok-close.ensures) (c.in_err-function_qualifiers.ensures))

pub returns : goal.returns
returns c =
    mark_and (passed open_paren terminal.OpenParen refl _ (c.if-not-is_at.ensures.yes refl)) (c.if-not-is_at.ensures.inside refl refl)
    (reads_seq c.in_ok-close.ensures (word_and (passed close_paren terminal.CloseParen refl _ (c.if-not-is_at-2.ensures.yes refl))
    (c.if-not-is_at-2.ensures.inside refl refl) (c.in_ok-function_qualifiers.ensures) refl refl) refl refl) refl refl
