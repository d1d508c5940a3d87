use Rattle.std.proofs.Common.{refl}
use Rattle.cpp_syntax.specs.declared.terminal.Terminal.TheVariants as terminal
use Rattle.cpp_syntax.specs.Terminals.{semicolon}
use Rattle.cpp_syntax.proofs.SingleTerminals.{passed, refused}
use Rattle.cpp_syntax.proofs.LongestMatches.{mark_none}
use Rattle.cpp_syntax.proofs.Readers.{leaves_same, leaves_both, leaves_read, reads_seq, reads_mark, none_behind, none_node, none_seq}
use Rattle.cpp_parse_expr.proofs.ReaderAnswers.{made, parsed_err}
use Rattle.cpp_parse.proofs.statements.expression_statement.Goals as goal

pub returns-in_default : goal.returns-in_default
returns-in_default c =
    let x = rw c.in_default.is at c.in_ok-close.ensures in
    (x.0, none_node (none_seq x.1))

pub returns-then-not-is_at : goal.returns-then-not-is_at
returns-then-not-is_at c =
    let x = rw c.in-Some.is at c.in_ok-close.ensures in (
      leaves_both (leaves_read x) (leaves_same c.expected_at.ensures),
      none_node (none_behind x (mark_none (refused semicolon terminal.Semicolon refl _ (c.if-not-is_at.ensures.no refl))) refl refl refl),
    )

pub returns-in_err-node : goal.returns-in_err-node
returns-in_err-node c =
    parsed_err _ _ _ _ c.from_residual-in_err-node.result c.from_residual-in_err-node.ensures.0
    (leaves_both (leaves_read (rw c.in-Some.is at c.in_ok-close.ensures)) (leaves_same c.in_err-node.ensures.memory))

pub returns : goal.returns
returns c =
    let v = passed semicolon terminal.Semicolon refl _ (c.if-not-is_at.ensures.yes refl) in
    made (reads_seq (rw c.in-Some.is at c.in_ok-close.ensures) (reads_mark v (c.if-not-is_at.ensures.inside refl refl)) refl refl)
    c.checkpoint-start.ensures c.in_ok-node.ensures.read
