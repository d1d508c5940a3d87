use Rattle.std.proofs.Common.{refl}
use Rattle.cpp_syntax.specs.declared.terminal.Terminal.TheVariants as terminal
use Rattle.cpp_syntax.specs.Terminals.{is_type_name}
use Rattle.cpp_syntax.proofs.SingleTerminals.{passed, refused}
use Rattle.cpp_syntax.proofs.LongestMatches.{mark_none, node_none}
use Rattle.cpp_syntax.proofs.Readers.{leaves_same, leaves_both, leaves_read, reads_seq, reads_mark, none_behind}
use Rattle.cpp_parse_expr.proofs.ReaderAnswers.{parsed_err, made}
use Rattle.cpp_parse.proofs.classes.base_specifier.Goals as goal

pub returns-then-not-is_at : goal.returns-then-not-is_at
returns-then-not-is_at c = (
  leaves_both (leaves_read c.in_ok-name.ensures) (leaves_same c.expected_at.ensures),
  node_none
      (none_behind c.in_ok-name.ensures (mark_none (refused is_type_name terminal.TypeName refl _ (c.if-not-is_at.ensures.no refl))) refl refl refl),
)

pub returns-in_err-node : goal.returns-in_err-node
returns-in_err-node c =
    parsed_err _ _ _ _ c.from_residual-in_err-node.result c.from_residual-in_err-node.ensures.0
    (leaves_both (leaves_read c.in_ok-name.ensures) (leaves_same c.in_err-node.ensures.memory))

pub returns : goal.returns
returns c =
    made (reads_seq c.in_ok-name.ensures (reads_mark (passed is_type_name terminal.TypeName refl _ (c.if-not-is_at.ensures.yes refl))
    (c.if-not-is_at.ensures.inside refl refl)) refl refl) c.checkpoint-start.ensures c.in_ok-node.ensures.read
