use Rattle.std.proofs.Common.{◌≡◌, Err, refl, ap, map, rules}
use Rattle.cpp_types.specs.Typ.{typ_of}
use Rattle.elab_entry.specs.elab_rules.Implicit.{source_object, source_const}
use Rattle.elab_entry.specs.elab_ctx.Ctx.{closure_of}
use Rattle.elab_entry.specs.elab_scopes.States.{state_of}
use Rattle.elab_entry.proofs.elab_scopes.Choices.{does_fail}
use Rattle.elab_implicit.proofs.CopyLists.{member_listed, member_faults, cleared_is}
use Rattle.elab_implicit.proofs.copying.member_ready.Goals as goal

pub returns-clause-is : goal.returns-clause-is
returns-clause-is c = member_listed c.args.st.now _ c.args.at c.args.class _ _ c.args.member (typ_of c.args.ty.now) _ _ c.in_ok-made.ensures
    (cleared_is (state_of c.args.st.now) _ _ _ refl (ap (map closure_of) c.clear.ensures.items))

pub returns-in_err-made-clause-is : goal.returns-in_err-made-clause-is
returns-in_err-made-clause-is c =
    let is_error : c.from_residual.result ≡ Err c.in_err-made.field-0.0 = search rules in
    does_fail _ _ _ _ _ is_error (member_faults (state_of c.args.st.now) c.args.at c.args.class (source_object c.args.class (typ_of c.args.param.now) c.args.at)
    (source_const (typ_of c.args.param.now)) c.args.member (typ_of c.args.ty.now) _ c.in_err-made.ensures)
