use Rattle.elab_init.specs.cpp_tree.Arena.{trees_of}
use Rattle.elab_init.specs.elab_ctx.Ctx.{ctx_of, work_of}
use Rattle.elab_init.specs.elab_ctx.Operands.{operand_in}
use Rattle.elab_make.proofs.Calling.{refused_word, word_makes}
use Rattle.elab_make.proofs.copying.reference_word.Goals as goal

pub returns-else-params-eq1 : goal.returns-else-params-eq1
returns-else-params-eq1 c = refused_word (ctx_of c.args.env.now) (work_of c.args.work.now) c.args.params.now
    (operand_in (trees_of c.args.work.now.nodes.items) c.args.o) _ c.if-params-eq1.false c.ill.ensures

pub returns-then-params-eq1 : goal.returns-then-params-eq1
returns-then-params-eq1 c = word_makes _ _ _ _ (ctx_of c.args.env.now) (work_of c.args.work.now) c.args.params.now c.index-params-0.result _
    (operand_in (trees_of c.args.work.now.nodes.items) c.args.o) c.if-params-eq1.true c.index-params-0.is c.one_word.ensures
