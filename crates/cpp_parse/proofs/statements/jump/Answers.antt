use Rattle.std.proofs.Common.{Some, refl, ap, ◌∙◌}
use Rattle.cpp_ast.specs.declared.arena.At.{At}
use Rattle.cpp_syntax.specs.declared.terminal.Terminal.TheVariants as terminal
use Rattle.cpp_syntax.specs.Terminals.{semicolon}
use Rattle.cpp_syntax.specs.Derivations.{no_read, reads_node}
use Rattle.cpp_syntax.specs.View.{appended}
use Rattle.cpp_syntax.proofs.SingleTerminals.{passed, refused}
use Rattle.cpp_syntax.proofs.LongestMatches.{word_none}
use Rattle.cpp_syntax.proofs.Readers.{leaves_same, none_node}
use Rattle.cpp_parse_expr.proofs.ReaderAnswers.{none_second_mark, parsed_err}
use Rattle.cpp_parse.proofs.StatementParts.{jump_there}
use Rattle.cpp_parse.proofs.statements.jump.Goals as goal

pub returns-then-not-is_at : goal.returns-then-not-is_at
returns-then-not-is_at c =
    λ w t. (
      leaves_same c.expected_at.ensures,
      none_node (none_second_mark (word_none
          (refused semicolon terminal.Semicolon refl _ (c.if-not-is_at.ensures.no refl)))),
    )

pub returns-in_err-leaf : goal.returns-in_err-leaf
returns-in_err-leaf c = λ w t. parsed_err _ _ _ _ c.from_residual.result c.from_residual.ensures.0 (leaves_same c.in_err-leaf.ensures.memory)

pub returns : goal.returns
returns c = λ w t.
    jump_there w t (passed semicolon terminal.Semicolon refl _ (c.if-not-is_at.ensures.yes refl)) (c.if-not-is_at.ensures.inside refl refl)
    (c.in_ok-leaf.ensures.added ∙ ap (λ (z : At). appended c.args.out.now (reads_node c.args.kind z (Some c.args.at) no_read)) c.position.ensures.position)
