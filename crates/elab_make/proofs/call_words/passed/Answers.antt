use Rattle.std.proofs.Common.{◌∙◌, sym}
use Rattle.elab_init.specs.cpp_types.Typ.{typ_of}
use Rattle.elab_init.specs.cpp_tree.Arena.{trees_of}
use Rattle.elab_init.specs.elab_ctx.Ctx.{ctx_of, work_of}
use Rattle.elab_init.specs.elab_ctx.Operands.{operand_in}
use Rattle.elab_make.proofs.Calling.{passed_makes}
use Rattle.elab_make.proofs.call_words.passed.Goals as goal

pub returns-then-is_class_type : goal.returns-then-is_class_type
returns-then-is_class_type c = passed_makes (trees_of c.args.work.now.nodes.items) _ _ _ (ctx_of c.args.env.now) (work_of c.args.work.now)
    (typ_of c.args.param.now) _ (operand_in (trees_of c.args.work.now.nodes.items) c.args.o)
    (sym c.is_class_type.ensures ∙ c.if-is_class_type.true) c.in_ok-ty.ensures c.passed_object.ensures
