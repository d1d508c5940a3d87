use Rattle.elab_init.specs.cpp_types.Typ.{typ_of}
use Rattle.elab_init.specs.cpp_tree.Arena.{trees_of}
use Rattle.elab_init.specs.elab_ctx.Ctx.{ctx_of, work_of}
use Rattle.elab_make.proofs.Calling.{copied_makes}
use Rattle.elab_make.proofs.exact.copied_object.Goals as goal

pub returns : goal.returns
returns c = copied_makes (ctx_of c.args.env.now) (work_of c.args.work.now) (work_of c.object_of.new.work) (work_of c.class_from.new.work)
    (typ_of c.args.ty.now) c.args.at c.args.o c.in_ok-id.id c.class_from.result (trees_of c.args.work.now.nodes.items)
    (trees_of c.object_of.new.work.nodes.items) (trees_of c.class_from.new.work.nodes.items) c.in_ok-id.ensures c.class_from.ensures
