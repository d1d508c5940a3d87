use Rattle.std.proofs.Common.{◌∙◌, get_or}
use Rattle.cpp_types.specs.Class.{classes_of, member_of}
use Rattle.cpp_layout.specs.Layout.{class_extent, member_extent, end_from}
use Rattle.std.proofs.Common.{take}
use Rattle.cpp_layout.proofs.Nesting.{slice_below, rest_over, member_complete, member_over, large_item, own_or, place_is, align_at, extents_of}
use Rattle.cpp_layout.proofs.Options.{none_of}
use Rattle.cpp_layout.proofs.objects.member_found.Goals as goal

pub with_members-requires-clause-held : goal.with_members-requires-clause-held
with_members-requires-clause-held c = slice_below (classes_of c.args.classes.now) c.args.number c.args.member c.args.members.now c.requires.held

pub returns-in_err-cursor : goal.returns-in_err-cursor
returns-in_err-cursor c = none_of _ _ _ c.from_residual.ensures
    (rest_over (classes_of c.args.classes.now) c.args.members.now c.args.member c.args.head.end c.in_err-cursor.ensures)

pub measured-requires-clause-complete : goal.measured-requires-clause-complete
measured-requires-clause-complete c = member_complete (classes_of c.args.classes.now) c.args.number c.args.members.now c.requires.held c.args.member
    (get_or c.args.members.now c.args.member c.index-members-member.result) c.requires.member
    (own_or c.args.members.now c.args.member c.index-members-member.result c.requires.member)

pub returns-in_err-item : goal.returns-in_err-item
returns-in_err-item c = none_of _ _ _ c.from_residual-in_err-item.ensures
    (member_over (classes_of c.args.classes.now) c.args.members.now c.args.member
    (get_or c.args.members.now c.args.member c.index-members-member.result) c.requires.member
    (own_or c.args.members.now c.args.member c.index-members-member.result c.requires.member) c.args.head c.in_ok-cursor.cursor c.in_ok-cursor.ensures
    (large_item c.in_ok-cursor.cursor.end (member_extent (class_extent (classes_of c.args.classes.now))
    (member_of (get_or c.args.members.now c.args.member c.index-members-member.result))) c.in_err-item.ensures))

pub returns : goal.returns
returns c m e = place_is c.aligned_up.result c.in_ok-cursor.cursor.end
    (end_from c.args.head.end (extents_of (classes_of c.args.classes.now) (take c.args.member c.args.members.now))) c.in_ok-item.item.align
    (member_extent (class_extent (classes_of c.args.classes.now)) (member_of m)).align c.aligned_up.ensures.value c.in_ok-cursor.ensures.end
    (c.in_ok-item.ensures.align ∙ align_at (classes_of c.args.classes.now) c.args.members.now c.args.member c.index-members-member.result m c.requires.member e)
