use Rattle.cpp_types.specs.Typ.{typ_of}
use Rattle.elab_stmt.specs.elab_ctx.Ctx.{ctx_of}
use Rattle.elab_entry.proofs.Endings.{zeroed_is}
use Rattle.elab_entry.proofs.ends.result_zeroed.Goals as goal

pub returns : goal.returns
returns c = zeroed_is _ _ _ _ _ _ _ (ctx_of c.args.env.now) (typ_of c.args.ty.now) _ _ c.args.at c.in_ok-copy.ensures c.plain_type-void.ensures
    c.in_ok-address.ensures c.in_ok-init.ensures c.add_binary.ensures.tree
