use Rattle.std.proofs.Common.{refl, sym as back}
use Rattle.cpp_syntax.specs.declared.terminal.Terminal.TheVariants as terminal
use Rattle.cpp_syntax.specs.Terminals.{colon}
use Rattle.cpp_syntax.proofs.SingleTerminals.{passed, refused}
use Rattle.cpp_syntax.proofs.LongestMatches.{word_none, mark_none, seq_none, node_none}
use Rattle.cpp_syntax.proofs.Readers.{leaves_same, reads_word}
use Rattle.cpp_parse_expr.proofs.ReaderAnswers.{parsed_err, made, mark_and, none_second_mark}
use Rattle.cpp_parse.proofs.members.access_label.Goals as goal

pub returns-then-not-is_access_at : goal.returns-then-not-is_access_at
returns-then-not-is_access_at c = (leaves_same c.expected_at.ensures, node_none (seq_none (mark_none (back c.if-not-is_access_at.ensures.test))))

pub returns-then-not-is_at : goal.returns-then-not-is_at
returns-then-not-is_at c = (
  leaves_same c.expected_at-then-not-is_at.ensures,
  node_none (none_second_mark (word_none
      (refused colon terminal.Colon refl _ (c.if-not-is_at.ensures.no refl)))),
)

pub returns-in_err-node : goal.returns-in_err-node
returns-in_err-node c = parsed_err _ _ _ _ c.from_residual.result c.from_residual.ensures.0 (leaves_same c.in_err-node.ensures.memory)

pub returns : goal.returns
returns c =
    made (mark_and (back c.if-not-is_access_at.ensures.test) (c.if-not-is_access_at.ensures.inside refl)
    (reads_word (passed colon terminal.Colon refl _ (c.if-not-is_at.ensures.yes refl)) (c.if-not-is_at.ensures.inside refl refl)) refl refl)
    c.checkpoint-start.ensures c.in_ok-node.ensures.read
