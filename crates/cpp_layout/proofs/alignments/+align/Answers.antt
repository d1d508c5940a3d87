use Rattle.std.proofs.Common.{◌∙◌, List, map, take, sym, ap, arith, subst}
use Rattle.cpp_types.specs.declared.classes.MemberRec.{MemberRec}
use Rattle.cpp_types.specs.Typ.{shape_form}
use Rattle.cpp_types.specs.Class.{classes_of, class_of, member_of}
use Rattle.cpp_layout.specs.Layout.{class_extent, member_extent, greatest_align}
use Rattle.cpp_layout.specs.Measured.{HeldBelow, member_extents}
use Rattle.cpp_layout.proofs.Forms.{aligned_by, aligned_alone}
use Rattle.cpp_layout.proofs.Nesting.{own_depth, base_depth, base_complete, members_below, member_depth, member_complete, one_more, greatest_push}
use Rattle.cpp_layout.proofs.Nesting.{class_aligned}
use Rattle.cpp_layout.proofs.alignments.+align.Goals as goal

pub align_of-returns-in-Some-clause-value : goal.align_of-returns-in-Some-clause-value
align_of-returns-in-Some-clause-value t c = c.shape_align.ensures.value
    ∙ aligned_by (class_extent (classes_of c.args.classes.now))
    (shape_form c.args.shape.now) c.held_class.result c.in-Some.part c.class_align.result c.in-Some.is c.held_class.ensures c.class_align.ensures.value

pub align_of-returns-in-None-clause-value : goal.align_of-returns-in-None-clause-value
align_of-returns-in-None-clause-value t c = c.shape_align-in-None.ensures.value
    ∙ aligned_alone (class_extent (classes_of c.args.classes.now)) (shape_form c.args.shape.now) c.held_class.result 1 c.in-None.is c.held_class.ensures

pub class_align-base_align-requires : goal.class_align-base_align-requires
class_align-base_align-requires t c =
    let d = base_depth (classes_of c.args.classes.now) c.requires.in_order c.args.class c.in-Some-complete.number
    (class_of c.in-Some.found.now) c.in-Some.ensures c.in-Some-complete.is in (
      omega arith,
      (
        c.requires.in_order,
        base_complete (classes_of c.args.classes.now) c.requires.in_order c.args.class c.in-Some-complete.number
            (class_of c.in-Some.found.now) c.in-Some.ensures c.in-Some-complete.is,
      ),
    )

pub class_align-members_align-requires : goal.class_align-members_align-requires
class_align-members_align-requires t c =
    let d = own_depth (classes_of c.args.classes.now) c.args.class c.in-Some-complete.number
    (class_of c.in-Some.found.now) c.in-Some.ensures c.in-Some-complete.is in (
      omega arith,
      (
        c.requires.in_order,
        subst (λ (z : List MemberRec). HeldBelow (classes_of c.args.classes.now) c.in-Some-complete.number (map member_of z))
            (sym c.deref.ensures.value) (members_below (classes_of c.args.classes.now) c.requires.in_order c.args.class c.in-Some-complete.number
            (class_of c.in-Some.found.now) c.in-Some.ensures c.in-Some-complete.is),
      ),
    )

pub class_align-returns-clause-value : goal.class_align-returns-clause-value
class_align-returns-clause-value t c = class_aligned (classes_of c.args.classes.now) c.requires.in_order c.args.class c.in-Some-complete.number
    (class_of c.in-Some.found.now) c.in-Some.ensures c.in-Some-complete.is c.base_align.result c.pointer_align.result c.members_align.result c.max.result
    c.base_align.ensures.value c.pointer_align.ensures.value
    (c.members_align.ensures.value ∙ ap (λ (z : List MemberRec). greatest_align (member_extents (classes_of c.args.classes.now) (map member_of z)))
    c.deref.ensures.value) (omega arith)

pub members_align-align_of-requires : goal.members_align-align_of-requires
members_align-align_of-requires t c =
    let d = member_depth (classes_of c.args.classes.now) c.args.number c.args.members.now c.requires.held c.loop-member.member-index c.member-item.result
    c.loop-member-test.true c.member-item.is in (
      omega arith,
      (
        c.requires.in_order,
        member_complete (classes_of c.args.classes.now) c.args.number c.args.members.now c.requires.held
            c.loop-member.member-index c.member-item.result c.loop-member-test.true c.member-item.is,
      ),
    )

pub members_align-loop-member-preserved : goal.members_align-loop-member-preserved
members_align-loop-member-preserved t c = record {
  value = let g = greatest_push (member_extents (classes_of c.args.classes.now) (map member_of (take c.loop-member.member-index c.args.members.now)))
      (member_extent (class_extent (classes_of c.args.classes.now)) (member_of c.member-item.result)) c.align_of.result c.loop-member.greatest
      (let l = c.align_of.ensures.low in let v = c.align_of.ensures.value in omega arith) c.align_of.ensures.value c.loop-member.invariant.value in
      let e = ap greatest_align
      (one_more
      (classes_of c.args.classes.now) c.args.members.now c.loop-member.member-index c.member-item.result c.loop-member-test.true c.member-item.is) in
      omega arith;
  low = omega arith;
  high = omega arith;
}
