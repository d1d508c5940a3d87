use Rattle.std.proofs.Common.{refl}
use Rattle.cpp_syntax.specs.declared.terminal.Terminal.TheVariants as terminal
use Rattle.cpp_syntax.specs.Terminals.{semicolon}
use Rattle.cpp_syntax.proofs.SingleTerminals.{passed, refused}
use Rattle.cpp_parse_expr.proofs.ReaderAnswers.{parsed_left, parsed_right}
use Rattle.cpp_parse.proofs.DefinitionKinds.{no_specifier, no_declared_class}
use Rattle.cpp_parse.proofs.declarations.class_or_specifier.Goals as goal

pub returns-then-is_at : goal.returns-then-is_at
returns-then-is_at c =
    parsed_left _ _ _ _ _ _ _ c.class_declaration.result (no_specifier c.requires.begins
    (passed semicolon terminal.Semicolon refl _ (c.if-is_at.ensures.yes refl))) c.class_declaration.ensures

pub returns : goal.returns
returns c =
    parsed_right _ _ _ _ _ _ _ c.class_specifier.result (no_declared_class c.requires.begins
    (refused semicolon terminal.Semicolon refl _ (c.if-is_at.ensures.no refl))) c.class_specifier.ensures
