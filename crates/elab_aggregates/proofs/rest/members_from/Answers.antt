use Rattle.std.proofs.Common.{◌≡◌, Err, refl, arith, rules}
use Rattle.elab_make.specs.cpp_types.Typ.{typ_of}
use Rattle.elab_make.specs.elab_ctx.Ctx.{ctx_of}
use Rattle.elab_make.proofs.Calling.{refused_all}
use Rattle.elab_aggregates.proofs.Aggregated.{member_made, member_fails, members_done}
use Rattle.elab_aggregates.proofs.rest.members_from.Goals as goal

pub loop-index-preserved : goal.loop-index-preserved
loop-index-preserved c = member_made (ctx_of c.args.env.now) _ _ c.args.at c.args.object
    (typ_of c.args.whole.now) c.args.class c.loop-index.index c.args.members.now _ c.index-members-index.result _ _ _ _ _ _ _ c.loop-index.invariant c.requires
    (omega arith) refl c.in_ok-kid.ensures c.in_ok-keep.ensures

pub returns : goal.returns
returns c = members_done (ctx_of c.args.env.now) _ c.args.at _
    (typ_of c.args.whole.now) c.args.class c.loop-index.index c.args.members.now _ _ _ _ c.loop-index.invariant (omega arith)

pub returns-in_err-kid : goal.returns-in_err-kid
returns-in_err-kid c =
    let is_error : c.from_residual.result ≡ Err c.in_err-kid.field-0.0 = search rules in
    refused_all _ _ _ _ _ _ is_error (member_fails (ctx_of c.args.env.now) _ c.args.at c.args.object
    (typ_of c.args.whole.now) c.args.class c.loop-index.index c.args.members.now _ c.index-members-index.result _ _ _ _ _ c.loop-index.invariant c.requires
    (omega arith) refl c.in_err-kid.ensures)
