use Rattle.std.proofs.Common.{List, map, sym, subst}
use Rattle.cpp_types.specs.declared.classes.MemberRec.{MemberRec}
use Rattle.cpp_types.specs.Class.{classes_of, class_of, member_of}
use Rattle.cpp_layout.specs.Layout.{class_extent}
use Rattle.class_layouts.specs.Kept.{MembersKept}
use Rattle.class_layouts.proofs.Served.{base_kept, members_kept}
use Rattle.class_layouts.proofs.Laid.{base_over, pointer_over, members_over, whole_over, laid_is, members_none, members_some}
use Rattle.class_layouts.proofs.layout.complete_layout.Goals as goal

pub returns-in_default : goal.returns-in_default
returns-in_default c = base_over (classes_of c.args.classes.now) c.requires.in_order c.args.class (class_of c.args.found.now) c.requires.found c.requires.complete
    (c.in_default.ensures (class_extent (classes_of c.args.classes.now))
    (base_kept (classes_of c.args.classes.now) c.args.layouts.now c.requires.in_order c.args.class (class_of c.args.found.now) c.requires.found
    c.requires.complete c.requires.serves))

pub with_pointer-requires : goal.with_pointer-requires
with_pointer-requires c = (c.in-Some.ensures (class_extent (classes_of c.args.classes.now))
    (base_kept (classes_of c.args.classes.now) c.args.layouts.now c.requires.in_order c.args.class (class_of c.args.found.now) c.requires.found
    c.requires.complete c.requires.serves)).bounds

pub returns-in_default-with_pointer : goal.returns-in_default-with_pointer
returns-in_default-with_pointer c =
    pointer_over (classes_of c.args.classes.now) c.requires.in_order c.args.class (class_of c.args.found.now) c.requires.found c.requires.complete
    c.in-Some.base
    (c.in-Some.ensures (class_extent (classes_of c.args.classes.now))
    (base_kept (classes_of c.args.classes.now) c.args.layouts.now c.requires.in_order c.args.class (class_of c.args.found.now) c.requires.found
    c.requires.complete c.requires.serves))
    c.in_default-with_pointer.ensures

pub with_members-requires-clause-kept : goal.with_members-requires-clause-kept
with_members-requires-clause-kept c =
    subst (λ (z : List MemberRec). MembersKept (classes_of c.args.classes.now) c.args.layouts.now (map member_of z)) (sym c.deref.ensures.value)
    (members_kept (classes_of c.args.classes.now) c.args.layouts.now c.requires.in_order c.args.class (class_of c.args.found.now) c.requires.found
    c.requires.complete c.requires.serves)

pub returns-in_default-2 : goal.returns-in_default-2
returns-in_default-2 c =
    members_over (classes_of c.args.classes.now) c.requires.in_order c.args.class (class_of c.args.found.now) c.requires.found c.requires.complete
    c.in-Some.base c.in-Some-with_pointer.head
    (c.in-Some.ensures (class_extent (classes_of c.args.classes.now))
    (base_kept (classes_of c.args.classes.now) c.args.layouts.now c.requires.in_order c.args.class (class_of c.args.found.now) c.requires.found
    c.requires.complete c.requires.serves))
    c.in-Some-with_pointer.ensures
    (members_none (classes_of c.args.classes.now) c.args.found.now.members.items c.deref.result.now c.in-Some-with_pointer.head c.in_ok-placed.field-0
    c.deref.ensures.value c.in_default-2.is c.in_ok-placed.ensures)

pub returns-in_default-whole_of : goal.returns-in_default-whole_of
returns-in_default-whole_of c =
    whole_over (classes_of c.args.classes.now) c.requires.in_order c.args.class (class_of c.args.found.now) c.requires.found c.requires.complete
    c.in-Some.base c.in-Some-with_pointer.head
    (c.in-Some.ensures (class_extent (classes_of c.args.classes.now))
    (base_kept (classes_of c.args.classes.now) c.args.layouts.now c.requires.in_order c.args.class (class_of c.args.found.now) c.requires.found
    c.requires.complete c.requires.serves))
    c.in-Some-with_pointer.ensures c.in-Some-2.placed
    (members_some (classes_of c.args.classes.now) c.args.found.now.members.items c.deref.result.now c.in-Some-with_pointer.head c.in_ok-placed.field-0
    c.in-Some-2.placed c.deref.ensures.value c.in-Some-2.is c.in_ok-placed.ensures)
    c.in_default-whole_of.ensures

pub returns : goal.returns
returns c =
    laid_is (classes_of c.args.classes.now) c.requires.in_order c.args.class (class_of c.args.found.now) c.requires.found c.requires.complete
    c.in-Some.base c.in-Some-with_pointer.head
    (c.in-Some.ensures (class_extent (classes_of c.args.classes.now))
    (base_kept (classes_of c.args.classes.now) c.args.layouts.now c.requires.in_order c.args.class (class_of c.args.found.now) c.requires.found
    c.requires.complete c.requires.serves))
    c.in-Some-with_pointer.ensures c.in-Some-2.placed
    (members_some (classes_of c.args.classes.now) c.args.found.now.members.items c.deref.result.now c.in-Some-with_pointer.head c.in_ok-placed.field-0
    c.in-Some-2.placed c.deref.ensures.value c.in-Some-2.is c.in_ok-placed.ensures)
    c.in-Some-whole_of.extent c.in-Some-whole_of.ensures
