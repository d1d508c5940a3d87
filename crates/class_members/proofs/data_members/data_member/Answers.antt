use Rattle.std.proofs.Common.{◌≡◌, rules, map, Ok, Err, subst}
use Rattle.cpp_types.specs.Typ.{typ_of}
use Rattle.cpp_types.specs.Class.{member_of}
use Rattle.elab_init.specs.elab_ctx.Ctx.{ctx_of}
use Rattle.elab_init.specs.elab_ctx.Says.{Faults}
use Rattle.class_members.specs.Parts.{fits_member}
use Rattle.class_members.proofs.Chains.{data_member_refused, data_member_done}
use Rattle.class_members.proofs.data_members.data_member.Goals as goal

pub returns-in_err-fits_class : goal.returns-in_err-fits_class
returns-in_err-fits_class c w bodies =
    let is_error : c.from_residual.result ≡ Err c.in_err-fits_class.field-0.0 = search rules in
    data_member_refused c.from_residual.result c.in_err-fits_class.field-0.0
    (ctx_of c.args.env.now) w bodies c.args.members.now c.args.members.now c.args.class c.args.at c.args.name.now
    (typ_of c.args.ty.now) c.args.has_initialiser is_error
    (subst (λ z. Faults c.in_err-fits_class.field-0.0
    (fits_member (ctx_of c.args.env.now) c.args.class (map member_of z) c.args.at c.args.name.now
    (typ_of c.args.ty.now))) c.deref.ensures.value c.in_err-fits_class.ensures)

pub returns : goal.returns
returns c w bodies =
    data_member_done (ctx_of c.args.env.now) w bodies c.args.members.now c.with_member.new.members c.args.class c.args.at c.args.name.now
    (typ_of c.args.ty.now) c.args.has_initialiser c.in_ok-fits_class.field-0
    (subst (λ z. fits_member (ctx_of c.args.env.now) c.args.class (map member_of z) c.args.at c.args.name.now (typ_of c.args.ty.now)
    ≡ Ok c.in_ok-fits_class.field-0) c.deref.ensures.value c.in_ok-fits_class.ensures)
    c.in_ok-with_member.ensures.members c.in_ok-with_member.ensures.initialised
