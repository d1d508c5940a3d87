use Rattle.std.proofs.Common.{None, refl}
use Rattle.cpp_syntax.specs.Rules.{simple_declaration}
use Rattle.cpp_syntax.proofs.LongestMatches.{neither}
use Rattle.cpp_parse_expr.proofs.ReaderAnswers.{parsed_left, parsed_right, parsed_form}
use Rattle.cpp_parse_expr.proofs.PostfixReaders.{parsed_instead, with_none_behind, with_same_before}
use Rattle.cpp_parse.proofs.functions.simple_declaration.Goals as goal

pub returns-in-Ordinary : goal.returns-in-Ordinary
returns-in-Ordinary c =
    let h = rw c.in-Ordinary.is at c.definition_at.ensures in
    parsed_form _ simple_declaration _ None _ _ c.ordinary_declaration.result (parsed_instead _ _ _ _ _ _ _ c.ordinary_declaration.result
    (with_same_before (with_none_behind (neither h.0 h.1))) refl c.ordinary_declaration.ensures)

pub returns-in-OfConstructor : goal.returns-in-OfConstructor
returns-in-OfConstructor c =
    let h = rw c.in-OfConstructor.is at c.definition_at.ensures in
    parsed_form _ simple_declaration _ None _ _ c.constructor_definition.result (parsed_right _ _ _ _ _ _ _ c.constructor_definition.result h.0
    (parsed_right _ _ _ _ _ _ _ c.constructor_definition.result h.1 (parsed_left _ _ _ _ _ _ _ c.constructor_definition.result h.2
    c.constructor_definition.ensures)))

pub returns-in-OfDestructor : goal.returns-in-OfDestructor
returns-in-OfDestructor c =
    let h = rw c.in-OfDestructor.is at c.definition_at.ensures in
    parsed_form _ simple_declaration _ None _ _ c.destructor_definition.result (parsed_right _ _ _ _ _ _ _ c.destructor_definition.result h.0
    (parsed_right _ _ _ _ _ _ _ c.destructor_definition.result h.1 (parsed_right _ _ _ _ _ _ _ c.destructor_definition.result h.2
    c.destructor_definition.ensures)))
