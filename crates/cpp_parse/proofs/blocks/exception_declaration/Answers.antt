use Rattle.std.proofs.Common.{refl}
use Rattle.cpp_syntax.specs.declared.terminal.Terminal.TheVariants as terminal
use Rattle.cpp_syntax.specs.Terminals.{ellipsis}
use Rattle.cpp_syntax.proofs.SingleTerminals.{passed, refused}
use Rattle.cpp_syntax.proofs.LongestMatches.{mark_none}
use Rattle.cpp_syntax.proofs.Readers.{leaves_same, reads_right, none_node}
use Rattle.cpp_parse_expr.proofs.ReaderAnswers.{leaf_there, none_unlike, parsed_err, parsed_left}
use Rattle.cpp_parse.proofs.blocks.exception_declaration.Goals as goal

pub returns-in_err-leaf : goal.returns-in_err-leaf
returns-in_err-leaf c = parsed_err _ _ _ _ c.from_residual.result c.from_residual.ensures.0 (leaves_same c.in_err-leaf.ensures)

pub returns-then-is_at : goal.returns-then-is_at
returns-then-is_at c =
    let u = passed ellipsis terminal.Ellipsis refl _ (c.if-is_at.ensures.yes refl) in
    reads_right (none_unlike ellipsis u refl refl) (leaf_there u (c.if-is_at.ensures.inside refl refl) c.in_ok-leaf.ensures)

pub returns : goal.returns
returns c =
    parsed_left _ _ _ _ _ _ _ c.parameter_declaration.result (none_node (mark_none (refused ellipsis terminal.Ellipsis refl _
    (c.if-is_at.ensures.no refl)))) c.parameter_declaration.ensures
