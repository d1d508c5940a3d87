use Rattle.std.proofs.Common.{refl}
use Rattle.cpp_syntax.specs.declared.terminal.Terminal.TheVariants as terminal
use Rattle.cpp_syntax.specs.Terminals.{open_bracket, close_bracket}
use Rattle.cpp_syntax.proofs.SingleTerminals.{passed, refused}
use Rattle.cpp_syntax.proofs.LongestMatches.{mark_none, word_none, node_none, form_none, seq_none}
use Rattle.cpp_syntax.proofs.Readers.{leaves_same, leaves_both, leaves_read, reads_seq, reads_word, reads_form, none_behind}
use Rattle.cpp_parse_expr.proofs.ReaderAnswers.{made, mark_and, none_second_mark}
use Rattle.cpp_parse_expr.proofs.lambdas.lambda_introducer.Goals as goal

pub returns-then-not-is_at : goal.returns-then-not-is_at
returns-then-not-is_at c = (
  leaves_same c.expected_at.ensures,
  form_none (node_none (seq_none (mark_none (refused open_bracket terminal.OpenBracket refl _
      (c.if-not-is_at.ensures.no refl))))),
)

pub returns-then-not-is_at-2 : goal.returns-then-not-is_at-2
returns-then-not-is_at-2 c =
    let x = c.in_ok-next.ensures in (
      leaves_both (leaves_read x) (leaves_same c.expected_at-then-not-is_at-2.ensures),
      form_none (node_none (none_second_mark (none_behind x (word_none (refused close_bracket terminal.CloseBracket refl _
          (c.if-not-is_at-2.ensures.no refl))) refl refl refl))),
    )

pub returns : goal.returns
returns c =
    let t = passed open_bracket terminal.OpenBracket refl _ (c.if-not-is_at.ensures.yes refl) in
    let u = passed close_bracket terminal.CloseBracket refl _ (c.if-not-is_at-2.ensures.yes refl) in
    reads_form (made (mark_and t (c.if-not-is_at.ensures.inside refl refl) (reads_seq c.in_ok-next.ensures
    (reads_word u (c.if-not-is_at-2.ensures.inside refl refl)) refl refl) refl refl) c.checkpoint-start.ensures c.in_ok-node.ensures.read)
