use Rattle.std.proofs.Common.{refl, sym as back}
use Rattle.cpp_syntax.specs.declared.terminal.Terminal.TheVariants as terminal
use Rattle.cpp_syntax.specs.Terminals.{semicolon}
use Rattle.cpp_syntax.proofs.SingleTerminals.{passed, refused}
use Rattle.cpp_syntax.proofs.LongestMatches.{word_none, mark_none, seq_none, node_none}
use Rattle.cpp_syntax.proofs.Readers.{leaves_same, leaves_both, reads_seq, reads_word, none_behind}
use Rattle.cpp_parse_expr.proofs.ReaderAnswers.{parsed_err, mark_and, leaf_there, none_second_mark}
use Rattle.cpp_parse.proofs.LongestAlone.{made_at_token, leaves_gained}
use Rattle.cpp_parse.proofs.classes.class_declaration.Goals as goal

pub returns-then-not-is_class_key_at : goal.returns-then-not-is_class_key_at
returns-then-not-is_class_key_at c =
    (leaves_same c.expected_at.ensures, node_none (seq_none (node_none (mark_none (back c.if-not-is_class_key_at.ensures.test)))))

pub returns-in_err-name : goal.returns-in_err-name
returns-in_err-name c = parsed_err _ _ _ _ c.from_residual.result c.from_residual.ensures.0 (leaves_same c.in_err-name.ensures)

pub returns-then-not-is_name_at : goal.returns-then-not-is_name_at
returns-then-not-is_name_at c = (
  leaves_both (leaves_gained _ c.in_ok-name.ensures.1) (leaves_same c.expected_at-then-not-is_name_at.ensures),
  node_none
      (none_behind (leaf_there (back c.if-not-is_class_key_at.ensures.test) (c.if-not-is_class_key_at.ensures.inside refl) c.in_ok-name.ensures)
      (seq_none (mark_none (back c.if-not-is_name_at.ensures.test))) refl refl refl),
)

pub returns-then-not-is_at : goal.returns-then-not-is_at
returns-then-not-is_at c = (
  leaves_both (leaves_gained _ c.in_ok-name.ensures.1) (leaves_same c.expected_at-then-not-is_at.ensures),
  node_none
      (none_behind (leaf_there (back c.if-not-is_class_key_at.ensures.test) (c.if-not-is_class_key_at.ensures.inside refl) c.in_ok-name.ensures)
      (none_second_mark (word_none (refused semicolon terminal.Semicolon refl _ (c.if-not-is_at.ensures.no refl)))) refl refl refl),
)

pub returns-in_err-node_at_token : goal.returns-in_err-node_at_token
returns-in_err-node_at_token c =
    parsed_err _ _ _ _ c.from_residual-in_err-node_at_token.result c.from_residual-in_err-node_at_token.ensures.0
    (leaves_both (leaves_gained _ c.in_ok-name.ensures.1) (leaves_same c.in_err-node_at_token.ensures.memory))

pub returns : goal.returns
returns c =
    made_at_token (reads_seq (leaf_there (back c.if-not-is_class_key_at.ensures.test) (c.if-not-is_class_key_at.ensures.inside refl)
    c.in_ok-name.ensures) (mark_and (back c.if-not-is_name_at.ensures.test) (c.if-not-is_name_at.ensures.inside refl)
    (reads_word (passed semicolon terminal.Semicolon refl _ (c.if-not-is_at.ensures.yes refl)) (c.if-not-is_at.ensures.inside refl refl)) refl refl)
    refl refl) c.checkpoint-start.ensures c.in_ok-node_at_token.ensures.read
