use Rattle.std.proofs.Common.{refl, sym as back}
use Rattle.cpp_syntax.proofs.LongestMatches.{mark_none, seq_none, node_none}
use Rattle.cpp_syntax.proofs.Readers.{leaves_same, leaves_both, leaves_read}
use Rattle.cpp_parse_expr.proofs.ReaderAnswers.{parsed_err, made, mark_and, none_second_mark}
use Rattle.cpp_parse.proofs.constructors.named_initializer.Goals as goal

pub returns-then-not-is_name_at : goal.returns-then-not-is_name_at
returns-then-not-is_name_at c = (leaves_same c.expected_at.ensures, node_none (seq_none (mark_none (back c.if-not-is_name_at.ensures.test))))

pub returns-in_default : goal.returns-in_default
returns-in_default c =
    let x = rw c.in_default.is at c.in_ok-next.ensures in
    (x.0, node_none (none_second_mark (x.1)))

pub returns-in_err-node : goal.returns-in_err-node
returns-in_err-node c =
    parsed_err _ _ _ _ c.from_residual-in_err-node.result c.from_residual-in_err-node.ensures.0
    (leaves_both (leaves_read (rw c.in-Some.is at c.in_ok-next.ensures)) (leaves_same c.in_err-node.ensures.memory))

pub returns : goal.returns
returns c =
    made (mark_and (back c.if-not-is_name_at.ensures.test) (c.if-not-is_name_at.ensures.inside refl) ((rw c.in-Some.is at c.in_ok-next.ensures)) refl
    refl) c.checkpoint-start.ensures c.in_ok-node.ensures.read
