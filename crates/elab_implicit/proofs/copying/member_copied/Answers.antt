use Rattle.std.proofs.Common.{◌≡◌, Err, rules}
use Rattle.cpp_types.specs.Typ.{typ_of}
use Rattle.elab_entry.specs.elab_ctx.Ctx.{ctx_of, work_of}
use Rattle.elab_entry.proofs.elab_make.Calling.{refused_made}
use Rattle.elab_implicit.proofs.CopyLists.{member_made, member_refused}
use Rattle.elab_implicit.proofs.copying.member_copied.Goals as goal

pub returns : goal.returns
returns c = member_made _ _ _ _ c.in_ok-part.part c.in_ok-init.init _ (ctx_of c.args.env.now)
    (work_of c.args.work.now) _ c.args.at c.args.class _ _ c.args.member (typ_of c.args.ty.now) c.in_ok-part.ensures c.in_ok-init.ensures c.in_ok-made.ensures

pub returns-in_err-init : goal.returns-in_err-init
returns-in_err-init c =
    let is_error : c.from_residual-in_err-init.result ≡ Err c.in_err-init.field-0.0 = search rules in
    refused_made _ _ _ _ _ _ is_error (member_refused _ _ c.in_ok-part.part (ctx_of c.args.env.now)
    (work_of c.args.work.now) c.args.at c.args.class _ _ c.args.member (typ_of c.args.ty.now) _ c.in_ok-part.ensures c.in_err-init.ensures)
