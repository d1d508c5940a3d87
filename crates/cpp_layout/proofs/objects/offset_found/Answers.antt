use Rattle.std.proofs.Common.{◌<◌, List, map, sym, ap, subst}
use Rattle.cpp_types.specs.declared.classes.MemberRec.{MemberRec}
use Rattle.cpp_types.specs.Class.{classes_of, class_of, member_of}
use Rattle.cpp_layout.specs.Layout.{end_from}
use Rattle.cpp_layout.specs.Measured.{HeldBelow}
use Rattle.cpp_layout.proofs.Nesting.{base_complete, members_below, over_base, over_pointer, over_members, extents_of, place_offset}
use Rattle.cpp_layout.proofs.Options.{none_of, match_map}
use Rattle.cpp_layout.specs.declared.extents.TheConstants.{GREATEST_SIZE}
use Rattle.cpp_layout.proofs.objects.offset_found.Goals as goal

pub base_cursor-requires-clause-complete : goal.base_cursor-requires-clause-complete
base_cursor-requires-clause-complete c = base_complete (classes_of c.args.classes.now) c.requires.in_order c.args.class c.in_ok-number.number
    (class_of c.in_ok-found.found.now) c.in_ok-found.ensures c.in_ok-number.was

pub returns-in_err-base : goal.returns-in_err-base
returns-in_err-base c = none_of _ _ _ c.from_residual-in_err-base.ensures
    (over_base (classes_of c.args.classes.now) c.requires.in_order c.args.class c.in_ok-number.number
    (class_of c.in_ok-found.found.now) c.in_ok-found.ensures c.in_ok-number.was c.in_err-base.ensures)

pub returns-in_err-head : goal.returns-in_err-head
returns-in_err-head c = none_of _ _ _ c.from_residual-in_err-head.ensures
    (over_pointer (classes_of c.args.classes.now) c.requires.in_order c.args.class c.in_ok-number.number
    (class_of c.in_ok-found.found.now) c.in_ok-found.ensures c.in_ok-number.was c.in_ok-base.base c.in_ok-base.ensures c.in_err-head.ensures)

pub member_found-requires-clause-held : goal.member_found-requires-clause-held
member_found-requires-clause-held c = subst (λ (z : List MemberRec). HeldBelow (classes_of c.args.classes.now) c.in_ok-number.number (map member_of z))
    (sym c.deref.ensures.value) (members_below (classes_of c.args.classes.now) c.requires.in_order c.args.class c.in_ok-number.number
    (class_of c.in_ok-found.found.now) c.in_ok-found.ensures c.in_ok-number.was)

pub returns : goal.returns
returns c = match_map _ _ _ _ _
    (λ l. over_members (classes_of c.args.classes.now) c.requires.in_order c.args.class c.in_ok-number.number
    (class_of c.in_ok-found.found.now) c.in_ok-found.ensures c.in_ok-number.was c.in_ok-base.base c.in_ok-head.head c.in_ok-base.ensures
    c.in_ok-head.ensures (subst (λ (z : List MemberRec). GREATEST_SIZE < end_from c.in_ok-head.head.end (extents_of (classes_of c.args.classes.now) z))
    c.deref.ensures.value l))
    (λ x q. place_offset (classes_of c.args.classes.now) c.args.class
    (class_of c.in_ok-found.found.now) c.in_ok-found.ensures c.in_ok-base.base c.in_ok-head.head c.in_ok-base.ensures c.in_ok-head.ensures
    c.deref.result.now (ap (map member_of) (sym c.deref.ensures.value)) c.args.member x q)
    c.member_found.ensures
