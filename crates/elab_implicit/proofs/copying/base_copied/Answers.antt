use Rattle.std.proofs.Common.{◌≡◌, Err, rules}
use Rattle.elab_entry.specs.elab_ctx.Ctx.{ctx_of, work_of}
use Rattle.elab_entry.proofs.elab_make.Calling.{refused_made}
use Rattle.elab_implicit.proofs.CopyLists.{base_made, base_failed}
use Rattle.elab_implicit.proofs.copying.base_copied.Goals as goal

pub returns-clause-made : goal.returns-clause-made
returns-clause-made c = base_made _ _ _ _ c.in_ok-source.source c.in_ok-init.init _ (ctx_of c.args.env.now) _
    (work_of c.args.work.now) _ c.args.at c.args.class c.args.base _
    (c.in_ok-source.ensures c.args.class) c.in_ok-init.ensures.made c.in_ok-init.ensures.ctx c.in_ok-made.ensures

pub returns-in_err-init-clause-made : goal.returns-in_err-init-clause-made
returns-in_err-init-clause-made c =
    let is_error : c.from_residual-in_err-init.result ≡ Err c.in_err-init.field-0.0 = search rules in
    refused_made _ _ _ _ _ _ is_error (base_failed _ _ c.in_ok-source.source (ctx_of c.args.env.now)
    (work_of c.args.work.now) c.args.at c.args.class c.args.base _ _ (c.in_ok-source.ensures c.args.class) c.in_err-init.ensures.made)

pub base_object-requires : goal.base_object-requires
base_object-requires c = (c.in_ok-source.ensures c.args.class).within
