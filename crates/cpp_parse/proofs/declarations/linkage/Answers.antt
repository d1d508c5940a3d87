use Rattle.std.proofs.Common.{refl}
use Rattle.cpp_syntax.specs.declared.terminal.Terminal.TheVariants as terminal
use Rattle.cpp_syntax.specs.Terminals.{open_brace}
use Rattle.cpp_syntax.proofs.SingleTerminals.{passed, refused}
use Rattle.cpp_parse_expr.proofs.ReaderAnswers.{parsed_left, parsed_right}
use Rattle.cpp_parse.proofs.DefinitionKinds.{no_block, no_linked}
use Rattle.cpp_parse.proofs.declarations.linkage.Goals as goal

pub returns-then-is_at : goal.returns-then-is_at
returns-then-is_at c =
    parsed_right _ _ _ _ _ _ _ c.linkage_block.result (no_linked (passed open_brace terminal.OpenBrace refl _ (c.if-is_at.ensures.yes refl)))
    c.linkage_block.ensures

pub returns : goal.returns
returns c =
    parsed_left _ _ _ _ _ _ _ c.linkage_specification.result (no_block (refused open_brace terminal.OpenBrace refl _ (c.if-is_at.ensures.no refl)))
    c.linkage_specification.ensures
