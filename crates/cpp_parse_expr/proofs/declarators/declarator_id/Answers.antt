use Rattle.std.proofs.Common.{refl, sym as back}
use Rattle.cpp_syntax.specs.declared.terminal.Terminal.TheVariants as terminal
use Rattle.cpp_syntax.specs.Terminals.{is_name, is_type_name, colon_colon}
use Rattle.cpp_syntax.proofs.SingleTerminals.{passed, refused}
use Rattle.cpp_syntax.proofs.LongestMatches.{mark_none, word_none, node_none, seq_none, neither}
use Rattle.cpp_syntax.proofs.Readers.{leaves_same, reads_left, reads_right}
use Rattle.cpp_parse_expr.proofs.ReaderAnswers.{parsed_err, made, leaf_there, none_unlike}
use Rattle.cpp_parse_expr.proofs.QualifiedNames.{qualified_there, none_qualified, none_behind_colons}
use Rattle.cpp_parse_expr.proofs.declarators.declarator_id.Goals as goal

pub returns-in_err-leaf : goal.returns-in_err-leaf
returns-in_err-leaf c = parsed_err _ _ _ _ c.from_residual.result c.from_residual.ensures.0 (leaves_same c.in_err-leaf.ensures)

pub returns-then-is_name_at : goal.returns-then-is_name_at
returns-then-is_name_at c =
    let t = back c.if-is_name_at.ensures.test in
    reads_left (leaf_there t (c.if-is_name_at.ensures.inside refl) c.in_ok-leaf.ensures) (none_unlike is_name t refl refl)

pub returns-then-not-is_at : goal.returns-then-not-is_at
returns-then-not-is_at c = (
  leaves_same c.expected_at.ensures,
  neither (node_none (mark_none (back c.if-is_name_at.ensures.test)))
      (node_none (seq_none (node_none (mark_none (refused is_type_name terminal.TypeName refl _ (c.if-not-is_at.ensures.no refl)))))),
)

pub returns-then-not-is_at-2 : goal.returns-then-not-is_at-2
returns-then-not-is_at-2 c = (
  leaves_same c.expected_at-then-not-is_at-2.ensures,
  neither (node_none (mark_none (back c.if-is_name_at.ensures.test)))
      (node_none (none_qualified (λ s. seq_none (word_none (refused colon_colon terminal.ColonColon refl _ (c.if-not-is_at-2.ensures.no refl)))))),
)

pub returns-then-not-is_name_at : goal.returns-then-not-is_name_at
returns-then-not-is_name_at c = (
  leaves_same c.expected_at-then-not-is_name_at.ensures,
  neither (node_none (mark_none (back c.if-is_name_at.ensures.test)))
      (node_none (none_qualified (λ s. none_behind_colons c.args.at (back c.if-not-is_name_at.ensures.test)))),
)

pub returns : goal.returns
returns c =
    let t = passed is_type_name terminal.TypeName refl _ (c.if-not-is_at.ensures.yes refl) in
    let u = passed colon_colon terminal.ColonColon refl _ (c.if-not-is_at-2.ensures.yes refl) in
    let x = qualified_there c.in_ok-type_name.ensures u (c.if-not-is_at-2.ensures.inside refl refl) (back c.if-not-is_name_at.ensures.test)
    (c.if-not-is_name_at.ensures.inside refl) in
    reads_right (node_none (mark_none (back c.if-is_name_at.ensures.test))) (made x c.checkpoint-start.ensures c.in_ok-node.ensures.read)
