use Rattle.elab_make.specs.cpp_tree.Arena.{trees_of}
use Rattle.elab_make.specs.elab_ctx.Ctx.{ctx_of, work_of}
use Rattle.elab_make.specs.elab_ctx.Operands.{operand_in}
use Rattle.elab_forms.proofs.Beside.{comma_puts}
use Rattle.elab_forms.proofs.drops.comma.Goals as goal

pub returns : goal.returns
returns c = comma_puts (ctx_of c.args.env.now) (work_of c.args.work.now) (work_of c.dropped.new.work) (work_of c.settled.new.work) c.args.at
    (operand_in (trees_of c.args.work.now.nodes.items) c.args.a) c.args.b c.in_ok-first.first c.in_ok-second.second c.comma_of.result
    (trees_of c.args.work.now.nodes.items) (trees_of c.dropped.new.work.nodes.items) (trees_of c.settled.new.work.nodes.items)
    (trees_of c.comma_of.new.nodes.items) c.requires.right c.in_ok-first.ensures c.in_ok-second.ensures c.comma_of.ensures
