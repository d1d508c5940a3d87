use Rattle.elab_expr.specs.cpp_types.Typ.{typ_of}
use Rattle.elab_expr.specs.cpp_tree.Arena.{trees_of}
use Rattle.elab_expr.specs.elab_ctx.Ctx.{ctx_of}
use Rattle.elab_braces.proofs.Answering.{directly_makes}
use Rattle.elab_braces.proofs.initialising.directly_initialised.Goals as goal

pub returns-else-os-eq1 : goal.returns-else-os-eq1
returns-else-os-eq1 c = directly_makes (ctx_of c.args.env.now) _ _ (typ_of c.args.ty.now) c.args.at
    (trees_of c.args.work.now.nodes.items) c.args.os.now _ _ _ c.if-os-eq1.false c.from_values.ensures
