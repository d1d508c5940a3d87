use Rattle.cpp_types.specs.Class.{classes_of, member_of}
use Rattle.cpp_layout.specs.Layout.{class_extent, member_extent}
use Rattle.cpp_layout.proofs.Nesting.{member_over, member_behind, large_item, item_over}
use Rattle.class_layouts.proofs.Items.{placed_one}
use Rattle.class_layouts.proofs.Served.{member_kept}
use Rattle.class_layouts.proofs.members.with_members.Goals as goal

pub measured-requires-clause-kept : goal.measured-requires-clause-kept
measured-requires-clause-kept c = member_kept (classes_of c.args.classes.now) c.args.layouts.now c.args.members.now c.requires.kept
    c.loop-member.member-index c.member-item.result c.loop-member-test.true c.member-item.is

pub returns-in_default : goal.returns-in_default
returns-in_default c = member_over (classes_of c.args.classes.now) c.args.members.now c.loop-member.member-index c.member-item.result c.loop-member-test.true
    c.member-item.is c.args.start c.loop-member.cursor c.loop-member.invariant.follows
    (large_item c.loop-member.cursor.end (member_extent (class_extent (classes_of c.args.classes.now)) (member_of c.member-item.result)) c.in_default.ensures)

pub returns-in_default-append : goal.returns-in_default-append
returns-in_default-append c =
    member_over (classes_of c.args.classes.now) c.args.members.now c.loop-member.member-index c.member-item.result c.loop-member-test.true
    c.member-item.is c.args.start c.loop-member.cursor c.loop-member.invariant.follows
    (item_over c.loop-member.cursor (member_extent (class_extent (classes_of c.args.classes.now)) (member_of c.member-item.result)) c.in-Some.item
    c.in-Some.ensures c.in_default-append.ensures)

pub loop-member-preserved : goal.loop-member-preserved
loop-member-preserved c = record {
  follows = member_behind (classes_of c.args.classes.now) c.args.members.now c.loop-member.member-index c.member-item.result c.loop-member-test.true
      c.member-item.is c.args.start c.loop-member.cursor c.loop-member.invariant.follows c.in-Some.item c.in-Some-append.next c.in-Some.ensures
      c.in-Some-append.ensures;
  offsets = placed_one (classes_of c.args.classes.now) c.args.members.now c.loop-member.member-index c.member-item.result c.loop-member-test.true
      c.member-item.is c.args.start c.loop-member.cursor c.loop-member.invariant.follows c.in-Some.item c.in-Some.ensures
      c.loop-member.offsets.items c.push.new.self.items c.aligned_up-place.result c.loop-member.invariant.offsets c.aligned_up-place.ensures.value
      c.in_ok-push.ensures.items;
}
