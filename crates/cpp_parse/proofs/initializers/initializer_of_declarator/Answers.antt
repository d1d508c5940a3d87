use Rattle.std.proofs.Common.{refl}
use Rattle.cpp_syntax.specs.declared.terminal.Terminal.TheVariants as terminal
use Rattle.cpp_syntax.specs.Terminals.{equal}
use Rattle.cpp_syntax.proofs.SingleTerminals.{passed, refused}
use Rattle.cpp_syntax.proofs.LongestMatches.{mark_none, seq_none}
use Rattle.cpp_syntax.proofs.Readers.{none_node}
use Rattle.cpp_parse_expr.proofs.ReaderAnswers.{none_unlike, parsed_left, parsed_right}
use Rattle.cpp_parse.proofs.initializers.initializer_of_declarator.Goals as goal

pub returns-then-is_at : goal.returns-then-is_at
returns-then-is_at c =
    parsed_left _ _ _ _ _ _ _ c.equal_initializer.result (none_unlike equal (passed equal terminal.Equal refl _ (c.if-is_at.ensures.yes refl)) refl
    refl) c.equal_initializer.ensures

pub returns : goal.returns
returns c =
    parsed_right _ _ _ _ _ _ _ c.parenthesized_initializer.result (none_node (seq_none
    (mark_none (refused equal terminal.Equal refl _ (c.if-is_at.ensures.no refl))))) c.parenthesized_initializer.ensures
