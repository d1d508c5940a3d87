use Rattle.elab_make.specs.cpp_types.Typ.{typ_of}
use Rattle.elab_make.specs.cpp_tree.Arena.{trees_of}
use Rattle.elab_make.specs.elab_ctx.Ctx.{ctx_of, work_of}
use Rattle.elab_forms.proofs.Objects.{objects_made}
use Rattle.elab_forms.proofs.conditionals.two_objects.Goals as goal

pub returns : goal.returns
returns c = objects_made (ctx_of c.args.env.now) (work_of c.args.work.now) (work_of c.exact_object.new.work)
    (work_of c.exact_object-2.new.work) c.args.at c.args.test c.in_ok-x.x c.in_ok-y.y c.in_ok-made.made c.args.a c.args.b (typ_of c.in_ok-ty.ty)
    (trees_of c.args.work.now.nodes.items) (trees_of c.exact_object.new.work.nodes.items) (trees_of c.exact_object-2.new.work.nodes.items)
    (trees_of c.conditional_node.new.nodes.items) c.requires.test c.requires.right
    c.in_ok-ty.ensures c.in_ok-x.ensures c.in_ok-y.ensures c.in_ok-made.ensures
