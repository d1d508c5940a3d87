use Rattle.std.proofs.Common.{refl}
use Rattle.cpp_syntax.specs.declared.terminal.Terminal.TheVariants as terminal
use Rattle.cpp_syntax.specs.Terminals.{is_string, extern_word}
use Rattle.cpp_syntax.proofs.SingleTerminals.{passed, refused}
use Rattle.cpp_syntax.proofs.LongestMatches.{word_none, mark_none, seq_none, node_none}
use Rattle.cpp_syntax.proofs.Readers.{leaves_same, leaves_both, leaves_read}
use Rattle.cpp_parse_expr.proofs.ReaderAnswers.{parsed_err, made, mark_and, word_and, none_second, none_second_mark}
use Rattle.cpp_parse.proofs.declarations.linkage_specification.Goals as goal

pub returns-then-not-is_at : goal.returns-then-not-is_at
returns-then-not-is_at c = (
  leaves_same c.expected_at.ensures,
  node_none (seq_none (word_none (refused extern_word terminal.Extern refl _
      (c.if-not-is_at.ensures.no refl)))),
)

pub returns-then-not-is_at-2 : goal.returns-then-not-is_at-2
returns-then-not-is_at-2 c = (
  leaves_same c.expected_at-then-not-is_at-2.ensures,
  node_none (none_second (seq_none
      (mark_none (refused is_string terminal.String refl _ (c.if-not-is_at-2.ensures.no refl))))),
)

pub returns-in_default : goal.returns-in_default
returns-in_default c =
    let x = rw c.in_default.is at c.in_ok-next.ensures in
    (x.0, node_none (none_second (none_second_mark (x.1))))

pub returns-in_err-node : goal.returns-in_err-node
returns-in_err-node c =
    parsed_err _ _ _ _ c.from_residual-in_err-node.result c.from_residual-in_err-node.ensures.0
    (leaves_both (leaves_read (rw c.in-Some.is at c.in_ok-next.ensures)) (leaves_same c.in_err-node.ensures.memory))

pub returns : goal.returns
returns c =
    let read_next = rw c.in-Some.is at c.in_ok-next.ensures in
    made (word_and (passed extern_word terminal.Extern refl _ (c.if-not-is_at.ensures.yes refl)) (c.if-not-is_at.ensures.inside refl refl)
    (mark_and (passed is_string terminal.String refl _ (c.if-not-is_at-2.ensures.yes refl)) (c.if-not-is_at-2.ensures.inside refl refl)
    (read_next) refl refl) refl refl) c.checkpoint-start.ensures c.in_ok-node.ensures.read
