use Rattle.std.proofs.Common.{refl}
use Rattle.cpp_syntax.proofs.Readers.{leaves_same, leaves_both, leaves_read, reads_seq, reads_form}
use Rattle.cpp_parse_expr.proofs.ReaderAnswers.{always_err, made}
use Rattle.cpp_parse_expr.proofs.declarators.function_qualifiers.Goals as goal

pub returns-in_err-safe : goal.returns-in_err-safe
returns-in_err-safe c =
    always_err _ _ _ _ c.from_residual-in_err-safe.result c.from_residual-in_err-safe.ensures.0
    (leaves_both (leaves_read c.in_ok-constant.ensures) c.in_err-safe.ensures)

pub returns-in_err-next : goal.returns-in_err-next
returns-in_err-next c =
    always_err _ _ _ _ c.from_residual-in_err-next.result c.from_residual-in_err-next.ensures.0
    (leaves_both (leaves_read c.in_ok-constant.ensures) (leaves_both (leaves_read c.in_ok-safe.ensures) c.in_err-next.ensures))

pub returns-in_err-node : goal.returns-in_err-node
returns-in_err-node c =
    always_err _ _ _ _ c.from_residual-in_err-node.result c.from_residual-in_err-node.ensures.0
    (leaves_both (leaves_read c.in_ok-constant.ensures) (leaves_both (leaves_read c.in_ok-safe.ensures)
    (leaves_both (leaves_read c.in_ok-next.ensures) (leaves_same c.in_err-node.ensures.memory))))

pub returns : goal.returns
returns c =
    reads_form (made (reads_seq c.in_ok-constant.ensures (reads_seq c.in_ok-safe.ensures c.in_ok-next.ensures refl refl) refl refl)
    c.checkpoint-start.ensures c.in_ok-node.ensures.read)
