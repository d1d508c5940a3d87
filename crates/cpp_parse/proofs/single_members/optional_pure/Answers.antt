use Rattle.std.proofs.Common.{refl}
use Rattle.cpp_syntax.specs.declared.terminal.Terminal.TheVariants as terminal
use Rattle.cpp_syntax.specs.Terminals.{is_zero, equal}
use Rattle.cpp_syntax.proofs.SingleTerminals.{passed, refused}
use Rattle.cpp_syntax.proofs.LongestMatches.{mark_none, seq_none, node_none}
use Rattle.cpp_syntax.proofs.Readers.{leaves_same, leaves_both, reads_taken, reads_left_out}
use Rattle.cpp_parse_expr.proofs.ReaderAnswers.{always_err, made, mark_and, leaf_there, none_second_mark}
use Rattle.cpp_parse.proofs.LongestAlone.{leaves_gained}
use Rattle.cpp_parse.proofs.single_members.optional_pure.Goals as goal

pub returns-then-not-is_at : goal.returns-then-not-is_at
returns-then-not-is_at c =
    reads_left_out (node_none (seq_none (mark_none (refused equal terminal.Equal refl _ (c.if-not-is_at.ensures.no refl))))) c.requires.here refl

pub returns-then-not-is_at-2 : goal.returns-then-not-is_at-2
returns-then-not-is_at-2 c =
    reads_left_out (node_none (none_second_mark (node_none (mark_none (refused is_zero terminal.Zero refl _ (c.if-not-is_at-2.ensures.no refl))))))
    c.requires.here refl

pub returns-in_err-next : goal.returns-in_err-next
returns-in_err-next c = always_err _ _ _ _ c.from_residual.result c.from_residual.ensures.0 (leaves_same c.in_err-next.ensures)

pub returns-in_err-node : goal.returns-in_err-node
returns-in_err-node c =
    always_err _ _ _ _ c.from_residual-in_err-node.result c.from_residual-in_err-node.ensures.0
    (leaves_both (leaves_gained _ c.in_ok-next.ensures.1) (leaves_same c.in_err-node.ensures.memory))

pub returns : goal.returns
returns c =
    reads_taken (made (mark_and (passed equal terminal.Equal refl _ (c.if-not-is_at.ensures.yes refl)) (c.if-not-is_at.ensures.inside refl refl)
    (leaf_there (passed is_zero terminal.Zero refl _ (c.if-not-is_at-2.ensures.yes refl)) (c.if-not-is_at-2.ensures.inside refl refl)
    c.in_ok-next.ensures) refl refl) c.checkpoint-start.ensures c.in_ok-node.ensures.read) refl
