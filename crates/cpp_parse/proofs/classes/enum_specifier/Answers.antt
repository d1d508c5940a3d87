use Rattle.std.proofs.Common.{refl, sym as back}
use Rattle.cpp_syntax.specs.declared.terminal.Terminal.TheVariants as terminal
use Rattle.cpp_syntax.specs.Terminals.{enum_word, semicolon}
use Rattle.cpp_syntax.proofs.SingleTerminals.{passed, refused}
use Rattle.cpp_syntax.proofs.LongestMatches.{word_none, mark_none, seq_none, node_none}
use Rattle.cpp_syntax.proofs.Readers.{leaves_same, leaves_both, leaves_read, reads_seq, reads_word, none_behind}
use Rattle.cpp_parse_expr.proofs.ReaderAnswers.{parsed_err, mark_and, word_and, none_second, none_second_mark}
use Rattle.cpp_parse.proofs.LongestAlone.{made_at_token}
use Rattle.cpp_parse.proofs.classes.enum_specifier.Goals as goal

pub returns-then-not-is_at : goal.returns-then-not-is_at
returns-then-not-is_at c =
    (leaves_same c.expected_at.ensures, node_none (seq_none (word_none (refused enum_word terminal.Enum refl _ (c.if-not-is_at.ensures.no refl)))))

pub returns-then-not-is_name_at : goal.returns-then-not-is_name_at
returns-then-not-is_name_at c = (
  leaves_both (leaves_read c.in_ok-name.ensures) (leaves_same c.expected_at-then-not-is_name_at.ensures),
  node_none
      (none_second (none_behind c.in_ok-name.ensures (seq_none (mark_none (back c.if-not-is_name_at.ensures.test))) refl refl refl)),
)

pub returns-in_err-end : goal.returns-in_err-end
returns-in_err-end c =
    parsed_err _ _ _ _ c.from_residual-in_err-end.result c.from_residual-in_err-end.ensures.0
    (leaves_both (leaves_read c.in_ok-name.ensures) (c.in_err-end.ensures))

pub returns-in_default : goal.returns-in_default
returns-in_default c =
    let x = rw c.in_default.is at c.in_ok-end.ensures in (
      leaves_both (leaves_read c.in_ok-name.ensures) (x.0),
      node_none (none_second (none_behind c.in_ok-name.ensures
          (none_second_mark (seq_none (x.1))) refl refl refl)),
    )

pub returns-then-not-is_at-2 : goal.returns-then-not-is_at-2
returns-then-not-is_at-2 c =
    let read_end = rw c.in-Some.is at c.in_ok-end.ensures in (
      leaves_both (leaves_read c.in_ok-name.ensures) (leaves_both (leaves_read read_end) (leaves_same c.expected_at-then-not-is_at-2.ensures)),
      node_none (none_second (none_behind c.in_ok-name.ensures (none_second_mark (none_behind read_end
          (word_none (refused semicolon terminal.Semicolon refl _ (c.if-not-is_at-2.ensures.no refl))) refl refl refl)) refl refl refl)),
    )

pub returns-in_err-node_at_token : goal.returns-in_err-node_at_token
returns-in_err-node_at_token c =
    parsed_err _ _ _ _ c.from_residual-in_err-node_at_token.result c.from_residual-in_err-node_at_token.ensures.0
    (leaves_both (leaves_read c.in_ok-name.ensures) (leaves_both (leaves_read (rw c.in-Some.is at c.in_ok-end.ensures))
    (leaves_same c.in_err-node_at_token.ensures.memory)))

pub returns : goal.returns
returns c =
    let read_end = rw c.in-Some.is at c.in_ok-end.ensures in
    made_at_token (word_and (passed enum_word terminal.Enum refl _ (c.if-not-is_at.ensures.yes refl)) (c.if-not-is_at.ensures.inside refl refl)
    (reads_seq c.in_ok-name.ensures (mark_and (back c.if-not-is_name_at.ensures.test) (c.if-not-is_name_at.ensures.inside refl)
    (reads_seq read_end (reads_word (passed semicolon terminal.Semicolon refl _ (c.if-not-is_at-2.ensures.yes refl))
    (c.if-not-is_at-2.ensures.inside refl refl)) refl refl) refl refl) refl refl) refl refl) c.checkpoint-start.ensures
    c.in_ok-node_at_token.ensures.read
