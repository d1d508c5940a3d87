use Rattle.cpp_types.specs.Typ.{typ_of}
use Rattle.elab_entry.specs.elab_ctx.Ctx.{ctx_of}
use Rattle.elab_implicit.proofs.CopyLists.{array_made}
use Rattle.elab_implicit.proofs.copying.array_copied.Goals as goal

pub returns : goal.returns
returns c = array_made _ _ _ c.args.source c.in_ok-init.init (ctx_of c.args.env.now) c.args.at _
    (typ_of c.args.ty.now) _ c.requires c.in_ok-init.ensures c.in_ok-object.ensures c.add_binary.ensures.tree
