use Rattle.std.proofs.Common.{◌≡◌, ◌<◌, ◌≤◌, ◌∙◌, Err, arith, length, slice_get, refl, rules}
use Rattle.cpp_types.specs.Class.{classes_of}
use Rattle.cpp_types.specs.Typ.{typ_of}
use Rattle.elab_entry.specs.elab_rules.Names.{members_in}
use Rattle.elab_entry.specs.elab_rules.Implicit.{source_object, source_const}
use Rattle.elab_implicit.proofs.CopyLists.{member_more, member_fails, members_done}
use Rattle.elab_implicit.proofs.PartLists.{does_all_fail}
use Rattle.elab_implicit.proofs.copying.members_copied.Goals as goal

pub loop-member-preserved : goal.loop-member-preserved
loop-member-preserved c =
    let ms = members_in (slice_get (classes_of c.args.st.now.env.classes.items) c.args.class) in
    let test = c.loop-member-test.true in
    let size = c.in_ok-count.ensures in
    let low : c.loop-member.member < length ms = omega arith in
    record {
      so_far = member_more c.args.st.now c.loop-member.st _ c.args.at c.args.class (source_object c.args.class (typ_of c.args.param.now) c.args.at)
          (source_const (typ_of c.args.param.now)) c.loop-member.member ms _ _ _ _ _ c.loop-member.invariant.so_far c.loop-member.invariant.classes refl low
          c.in_ok-made.ensures.is c.in_ok-keep.ensures;
      classes = c.in_ok-made.ensures.classes ∙ c.loop-member.invariant.classes;
    }

pub returns : goal.returns
returns c =
    let ms = members_in (slice_get (classes_of c.args.st.now.env.classes.items) c.args.class) in
    let test = c.loop-member-test.false in
    let size = c.in_ok-count.ensures in
    let high : length ms ≤ c.loop-member.member = omega arith in
    members_done c.args.st.now c.loop-member.st c.args.at c.args.class (source_object c.args.class (typ_of c.args.param.now) c.args.at)
    (source_const (typ_of c.args.param.now)) c.loop-member.member ms _ _ _ c.loop-member.invariant.so_far high

pub returns-in_err-made : goal.returns-in_err-made
returns-in_err-made c =
    let ms = members_in (slice_get (classes_of c.args.st.now.env.classes.items) c.args.class) in
    let test = c.loop-member-test.true in
    let size = c.in_ok-count.ensures in
    let low : c.loop-member.member < length ms = omega arith in
    let is_error : c.from_residual-in_err-made.result ≡ Err c.in_err-made.field-0.0 = search rules in
    does_all_fail _ _ _ _ _ _ _ is_error (member_fails c.args.st.now c.loop-member.st c.args.at c.args.class
    (source_object c.args.class (typ_of c.args.param.now) c.args.at)
    (source_const (typ_of c.args.param.now)) c.loop-member.member ms _ _ _ _ c.loop-member.invariant.so_far c.loop-member.invariant.classes refl low
    c.in_err-made.ensures.is)
