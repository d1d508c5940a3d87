use Rattle.std.proofs.Common.{None, refl, sym as back}
use Rattle.cpp_syntax.specs.Terminals.{is_access}
use Rattle.cpp_syntax.specs.Rules.{member_declaration}
use Rattle.cpp_syntax.proofs.LongestMatches.{mark_none, seq_none, node_none, neither}
use Rattle.cpp_parse_expr.proofs.ReaderAnswers.{none_unlike, parsed_left, parsed_right, parsed_form}
use Rattle.cpp_parse_expr.proofs.PostfixReaders.{parsed_instead, with_none_before, with_none_behind, with_same_before}
use Rattle.cpp_parse.proofs.LongestAlone.{none_left, none_right}
use Rattle.cpp_parse.proofs.MemberStarts.{untyped_initialized, untyped_listed}
use Rattle.cpp_parse.proofs.members.member_declaration.Goals as goal

pub returns-then-is_access_at : goal.returns-then-is_access_at
returns-then-is_access_at c =
    let t = back c.if-is_access_at.ensures.test in
    parsed_form _ member_declaration _ None _ _ c.access_label.result (parsed_left _ _ _ _ _ _ _ c.access_label.result
    (none_unlike is_access t refl refl) c.access_label.ensures)

pub returns-then-is_destructor : goal.returns-then-is_destructor
returns-then-is_destructor c =
    let n = c.if-is_destructor.ensures in
    parsed_form _ member_declaration _ None _ _ c.destructor.result (parsed_right _ _ _ _ _ _ _ c.destructor.result
    (node_none (seq_none (mark_none (back c.if-is_access_at.ensures.test)))) (parsed_right _ _ _ _ _ _ _ c.destructor.result (none_left n)
    (parsed_right _ _ _ _ _ _ _ c.destructor.result (none_left (none_right n)) (parsed_right _ _ _ _ _ _ _ c.destructor.result
    (none_left (none_right (none_right n))) (parsed_right _ _ _ _ _ _ _ c.destructor.result (none_left (none_right (none_right (none_right n))))
    (parsed_right _ _ _ _ _ _ _ c.destructor.result (none_left (none_right (none_right (none_right (none_right n)))))
    (parsed_right _ _ _ _ _ _ _ c.destructor.result ((none_right (none_right (none_right (none_right (none_right n))))))
    (c.destructor.ensures))))))))

pub returns-then-is_constructor : goal.returns-then-is_constructor
returns-then-is_constructor c =
    let n = c.if-is_constructor.ensures in
    let d = c.if-is_destructor.ensures in
    parsed_form _ member_declaration _ None _ _ c.constructor.result (parsed_instead _ _ _ _ _ _ _ c.constructor.result
    (with_none_before (node_none (seq_none (mark_none (back c.if-is_access_at.ensures.test))))
    (with_none_before (none_left n) (with_none_before (none_left (none_right n)) (with_none_before (none_left (none_right (none_right n)))
    (with_none_before (none_right (none_right (none_right n))) (with_same_before (with_none_behind d))))))) refl c.constructor.ensures)

pub returns-then-begins_type_at : goal.returns-then-begins_type_at
returns-then-begins_type_at c =
    let k = c.if-is_constructor.ensures in
    let d = c.if-is_destructor.ensures in
    parsed_form _ member_declaration _ None _ _ c.typed_member.result (parsed_instead _ _ _ _ _ _ _ c.typed_member.result
    (with_none_before (node_none (seq_none (mark_none (back c.if-is_access_at.ensures.test))))
    (with_same_before (with_same_before (with_same_before (with_none_behind (neither (none_left k) (neither (none_right k) d))))))) refl
    c.typed_member.ensures)

pub returns : goal.returns
returns c =
    let k = c.if-is_constructor.ensures in
    let d = c.if-is_destructor.ensures in
    let t = back c.if-begins_type_at.ensures.test in
    parsed_form _ member_declaration _ None _ _ c.specified_member.result (parsed_instead _ _ _ _ _ _ _ c.specified_member.result
    (with_none_before (node_none (seq_none (mark_none (back c.if-is_access_at.ensures.test))))
    (with_same_before (with_none_before (untyped_initialized t) (with_none_before (untyped_listed t)
    (with_none_behind (neither (none_left k) (neither (none_right k) d))))))) refl c.specified_member.ensures)
