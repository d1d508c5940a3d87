use Rattle.std.proofs.Common.{◌<◌, List, map, sym, arith, subst}
use Rattle.cpp_types.specs.declared.classes.MemberRec.{MemberRec}
use Rattle.cpp_types.specs.Typ.{shape_form}
use Rattle.cpp_types.specs.Class.{classes_of, class_of, member_of}
use Rattle.cpp_layout.specs.Layout.{class_extent, form_extent, member_extent, end_from}
use Rattle.cpp_layout.specs.Measured.{HeldBelow, Follows}
use Rattle.cpp_layout.proofs.Forms.{none_answers, answers_along, answers_by, answers_alone, large_part, vacant_measured}
use Rattle.cpp_layout.proofs.Nesting.{own_depth, base_depth, base_complete, members_below, member_depth, member_complete, over_base, over_pointer, over_members}
use Rattle.cpp_layout.proofs.Nesting.{whole_is, extents_of, large_item, member_over, member_behind, item_over, no_members, seen}
use Rattle.cpp_layout.specs.declared.extents.TheConstants.{GREATEST_SIZE}
use Rattle.cpp_layout.proofs.measures.+measure.Goals as goal

pub class_measured-base_cursor-requires : goal.class_measured-base_cursor-requires
class_measured-base_cursor-requires t c = let d = base_depth (classes_of c.args.classes.now) c.requires.in_order c.args.class c.in_ok-number.number
    (class_of c.in_ok-found.found.now) c.in_ok-found.ensures c.in_ok-number.was in (
      omega arith,
      (
        c.requires.in_order,
        base_complete (classes_of c.args.classes.now) c.requires.in_order c.args.class c.in_ok-number.number
            (class_of c.in_ok-found.found.now) c.in_ok-found.ensures c.in_ok-number.was,
      ),
    )

pub class_measured-returns-in_err-base : goal.class_measured-returns-in_err-base
class_measured-returns-in_err-base t c = none_answers c.from_residual-in_err-base.result
    (class_extent (classes_of c.args.classes.now) c.args.class) c.from_residual-in_err-base.ensures
    (over_base (classes_of c.args.classes.now) c.requires.in_order c.args.class c.in_ok-number.number
    (class_of c.in_ok-found.found.now) c.in_ok-found.ensures c.in_ok-number.was c.in_err-base.ensures)

pub class_measured-returns-in_err-head : goal.class_measured-returns-in_err-head
class_measured-returns-in_err-head t c = none_answers c.from_residual-in_err-head.result
    (class_extent (classes_of c.args.classes.now) c.args.class) c.from_residual-in_err-head.ensures
    (over_pointer (classes_of c.args.classes.now) c.requires.in_order c.args.class c.in_ok-number.number
    (class_of c.in_ok-found.found.now) c.in_ok-found.ensures c.in_ok-number.was c.in_ok-base.base c.in_ok-base.ensures c.in_err-head.ensures)

pub class_measured-with_members-requires : goal.class_measured-with_members-requires
class_measured-with_members-requires t c =
    let d = own_depth (classes_of c.args.classes.now) c.args.class c.in_ok-number.number
    (class_of c.in_ok-found.found.now) c.in_ok-found.ensures c.in_ok-number.was in (
      omega arith,
      (
        c.requires.in_order,
        (
          subst (λ (z : List MemberRec). HeldBelow (classes_of c.args.classes.now) c.in_ok-number.number (map member_of z))
              (sym c.deref.ensures.value) (members_below (classes_of c.args.classes.now) c.requires.in_order c.args.class c.in_ok-number.number
              (class_of c.in_ok-found.found.now) c.in_ok-found.ensures c.in_ok-number.was),
          c.in_ok-head.ensures.bounds,
        ),
      ),
    )

pub class_measured-returns-in_err-cursor : goal.class_measured-returns-in_err-cursor
class_measured-returns-in_err-cursor t c = none_answers c.from_residual-in_err-cursor.result
    (class_extent (classes_of c.args.classes.now) c.args.class) c.from_residual-in_err-cursor.ensures
    (over_members (classes_of c.args.classes.now) c.requires.in_order c.args.class c.in_ok-number.number
    (class_of c.in_ok-found.found.now) c.in_ok-found.ensures c.in_ok-number.was c.in_ok-base.base c.in_ok-head.head c.in_ok-base.ensures c.in_ok-head.ensures
    (subst (λ (z : List MemberRec). GREATEST_SIZE < end_from c.in_ok-head.head.end
    (extents_of (classes_of c.args.classes.now) z)) c.deref.ensures.value c.in_err-cursor.ensures))

pub class_measured-returns : goal.class_measured-returns
class_measured-returns t c = answers_along c.whole_of.result (seen c.in_ok-cursor.cursor) (class_extent (classes_of c.args.classes.now) c.args.class)
    (whole_is (classes_of c.args.classes.now) c.requires.in_order c.args.class c.in_ok-number.number
    (class_of c.in_ok-found.found.now) c.in_ok-found.ensures c.in_ok-number.was c.in_ok-base.base c.in_ok-head.head c.in_ok-cursor.cursor c.in_ok-base.ensures
    c.in_ok-head.ensures (subst (λ (z : List MemberRec). Follows c.in_ok-head.head (extents_of (classes_of c.args.classes.now) z) c.in_ok-cursor.cursor)
    c.deref.ensures.value c.in_ok-cursor.ensures)) c.whole_of.ensures

pub measured-returns-then-has_no_elements : goal.measured-returns-then-has_no_elements
measured-returns-then-has_no_elements t c = vacant_measured (class_extent (classes_of c.args.classes.now)) (shape_form c.args.shape.now) c.align_of.result
    (sym c.if-has_no_elements.ensures) c.align_of.ensures.value c.align_of.ensures.low c.align_of.ensures.high

pub measured-returns-in_err-class_measured-in-Some : goal.measured-returns-in_err-class_measured-in-Some
measured-returns-in_err-class_measured-in-Some t c = none_answers c.from_residual.result
    (form_extent (class_extent (classes_of c.args.classes.now)) (shape_form c.args.shape.now)) c.from_residual.ensures
    (large_part (class_extent (classes_of c.args.classes.now))
    (shape_form c.args.shape.now) c.held_class.result c.in-Some.part c.in-Some.is c.held_class.ensures
    (sym c.if-has_no_elements.ensures) c.in_err-class_measured-in-Some.ensures)

pub measured-returns-in_ok-class_measured-in-Some : goal.measured-returns-in_ok-class_measured-in-Some
measured-returns-in_ok-class_measured-in-Some t c = answers_by (class_extent (classes_of c.args.classes.now))
    (shape_form c.args.shape.now) c.held_class.result c.in-Some.part c.scaled.result c.in_ok-class_measured-in-Some.field-0 c.in-Some.is c.held_class.ensures
    c.in_ok-class_measured-in-Some.ensures c.scaled.ensures

pub measured-returns-in-None : goal.measured-returns-in-None
measured-returns-in-None t c = answers_alone (class_extent (classes_of c.args.classes.now))
    (shape_form c.args.shape.now) c.held_class.result c.scaled-in-None.result c.scalar_of.result c.in-None.is c.held_class.ensures c.scaled-in-None.ensures

pub with_members-measured-requires : goal.with_members-measured-requires
with_members-measured-requires t c =
    let d = member_depth (classes_of c.args.classes.now) c.args.number c.args.members.now c.requires.held c.loop-member.member-index c.member-item.result
    c.loop-member-test.true c.member-item.is in (
      omega arith,
      (
        c.requires.in_order,
        member_complete (classes_of c.args.classes.now) c.args.number c.args.members.now c.requires.held
            c.loop-member.member-index c.member-item.result c.loop-member-test.true c.member-item.is,
      ),
    )

pub with_members-returns-in_err-measured : goal.with_members-returns-in_err-measured
with_members-returns-in_err-measured t c = no_members c.from_residual.result c.args.start
    (extents_of (classes_of c.args.classes.now) c.args.members.now) c.from_residual.ensures
    (member_over (classes_of c.args.classes.now) c.args.members.now c.loop-member.member-index c.member-item.result c.loop-member-test.true c.member-item.is
    c.args.start c.loop-member.cursor c.loop-member.invariant
    (large_item c.loop-member.cursor.end (member_extent (class_extent (classes_of c.args.classes.now)) (member_of c.member-item.result))
    c.in_err-measured.ensures))

pub with_members-returns-in_err-cursor : goal.with_members-returns-in_err-cursor
with_members-returns-in_err-cursor t c = no_members c.from_residual-in_err-cursor.result c.args.start
    (extents_of (classes_of c.args.classes.now) c.args.members.now) c.from_residual-in_err-cursor.ensures
    (member_over (classes_of c.args.classes.now) c.args.members.now c.loop-member.member-index c.member-item.result c.loop-member-test.true c.member-item.is
    c.args.start c.loop-member.cursor c.loop-member.invariant
    (item_over c.loop-member.cursor (member_extent (class_extent (classes_of c.args.classes.now)) (member_of c.member-item.result)) c.in_ok-measured.field-0
    c.in_ok-measured.ensures c.in_err-cursor.ensures))

pub with_members-loop-member-preserved : goal.with_members-loop-member-preserved
with_members-loop-member-preserved t c = member_behind
    (classes_of c.args.classes.now) c.args.members.now c.loop-member.member-index c.member-item.result c.loop-member-test.true c.member-item.is c.args.start
    c.loop-member.cursor c.loop-member.invariant c.in_ok-measured.field-0 c.in_ok-cursor.cursor c.in_ok-measured.ensures c.in_ok-cursor.ensures
