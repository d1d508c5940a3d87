use Rattle.elab_make.specs.cpp_tree.Arena.{trees_of}
use Rattle.elab_make.specs.elab_ctx.Ctx.{ctx_of, work_of}
use Rattle.elab_make.specs.elab_ctx.Operands.{operand_in}
use Rattle.elab_forms.proofs.Beside.{beside_puts}
use Rattle.elab_forms.proofs.conditionals.beside_throw.Goals as goal

pub returns : goal.returns
returns c = beside_puts (ctx_of c.args.env.now) (work_of c.args.work.now) (work_of c.settled.new.work) c.args.at c.args.test c.in_ok-x.x c.in_ok-y.y
    (operand_in (trees_of c.args.work.now.nodes.items) c.args.a) c.args.b c.conditional_like.result (trees_of c.args.work.now.nodes.items)
    (trees_of c.settled.new.work.nodes.items) (trees_of c.conditional_like.new.nodes.items) c.requires.test c.requires.right c.in_ok-x.ensures
    c.in_ok-y.ensures.is c.conditional_like.ensures
