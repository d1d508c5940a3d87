use Rattle.std.proofs.Common.{refl, sym as back}
use Rattle.cpp_syntax.proofs.LongestMatches.{mark_none, seq_none, node_none, form_none}
use Rattle.cpp_syntax.proofs.Readers.{leaves_same, leaves_both, leaves_read, reads_form}
use Rattle.cpp_parse_expr.proofs.ReaderAnswers.{parsed_err, mark_and}
use Rattle.cpp_parse.proofs.LongestAlone.{made_at_token}
use Rattle.cpp_parse.proofs.classes.enumerator_definition.Goals as goal

pub returns-then-not-is_name_at : goal.returns-then-not-is_name_at
returns-then-not-is_name_at c = (leaves_same c.expected_at.ensures, form_none (node_none (seq_none (mark_none (back c.if-not-is_name_at.ensures.test)))))

pub returns-in_err-node_at_token : goal.returns-in_err-node_at_token
returns-in_err-node_at_token c =
    parsed_err _ _ _ _ c.from_residual-in_err-node_at_token.result c.from_residual-in_err-node_at_token.ensures.0
    (leaves_both (leaves_read c.in_ok-next.ensures) (leaves_same c.in_err-node_at_token.ensures.memory))

pub returns : goal.returns
returns c =
    reads_form (made_at_token (mark_and (back c.if-not-is_name_at.ensures.test) (c.if-not-is_name_at.ensures.inside refl) (c.in_ok-next.ensures) refl
    refl) c.checkpoint-start.ensures c.in_ok-node_at_token.ensures.read)
