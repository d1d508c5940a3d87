use Rattle.std.proofs.Common.{None, refl}
use Rattle.cpp_syntax.specs.declared.terminal.Terminal.TheVariants as terminal
use Rattle.cpp_syntax.specs.Terminals.{is_type_name}
use Rattle.cpp_syntax.specs.Rules.{member_initializer}
use Rattle.cpp_syntax.proofs.SingleTerminals.{passed, refused}
use Rattle.cpp_syntax.proofs.LongestMatches.{mark_none, seq_none}
use Rattle.cpp_syntax.proofs.Readers.{none_node}
use Rattle.cpp_parse_expr.proofs.ReaderAnswers.{none_unlike, parsed_left, parsed_right, parsed_form}
use Rattle.cpp_parse.proofs.constructors.member_initializer.Goals as goal

pub returns-then-is_at : goal.returns-then-is_at
returns-then-is_at c =
    let t = passed is_type_name terminal.TypeName refl _ (c.if-is_at.ensures.yes refl) in
    parsed_form _ member_initializer _ None _ _ c.base_initializer.result (parsed_left _ _ _ _ _ _ _ c.base_initializer.result
    (none_unlike is_type_name t refl refl) c.base_initializer.ensures)

pub returns : goal.returns
returns c =
    parsed_form _ member_initializer _ None _ _ c.named_initializer.result (parsed_right _ _ _ _ _ _ _ c.named_initializer.result
    (none_node (seq_none (mark_none (refused is_type_name terminal.TypeName refl _ (c.if-is_at.ensures.no refl))))) c.named_initializer.ensures)
