use Rattle.elab_entry.specs.elab_ctx.Ctx.{ctx_of, work_of}
use Rattle.elab_entry.specs.elab_ctx.Operands.{operands_in}
use Rattle.elab_entry.specs.cpp_types.Typ.{typ_of}
use Rattle.elab_entry.specs.cpp_tree.Arena.{trees_of}
use Rattle.elab_members.proofs.PartSteps.{put_back, initialised_so}
use Rattle.elab_members.proofs.parts.part_initialised.Goals as goal

pub returns-clause-ctx : goal.returns-clause-ctx
returns-clause-ctx c = put_back (ctx_of c.args.env.now) _ _ _ _ c.allow_base-was.ensures.ctx c.allow_base-was.ensures.was c.restore_base.ensures

pub returns-clause-made : goal.returns-clause-made
returns-clause-made c = initialised_so _ _ _ _ (ctx_of c.args.env.now) _ c.args.class c.args.member _ (work_of c.args.work.now) (typ_of c.args.ty.now) c.args.at
    (operands_in (trees_of c.args.work.now.nodes.items) c.args.os.now) c.base_for-base.ensures c.allow_base-was.ensures.ctx c.directly_initialised-made.ensures
