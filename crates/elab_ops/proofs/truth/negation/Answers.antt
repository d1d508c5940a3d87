use Rattle.elab_conv.specs.cpp_tree.Arena.{trees_of}
use Rattle.elab_conv.specs.elab_ctx.Ctx.{ctx_of}
use Rattle.elab_conv.specs.elab_ctx.Operands.{operand_in}
use Rattle.elab_conv.proofs.elab_ctx.Making.{gives_same}
use Rattle.elab_ops.proofs.Steps.{gives_grows, gives_within}
use Rattle.elab_ops.proofs.Values.{negation_is}
use Rattle.elab_ops.proofs.truth.negation.Goals as goal

pub returns : goal.returns
returns c = record {
  grows = gives_grows _ _ _ _ c.negation_in.ensures;
  within = gives_within _ _ _ _ c.negation_in.ensures;
  exact = λ w. gives_same _ _ _ _ _ (negation_is (ctx_of c.args.env.now) w c.args.at
      (operand_in (trees_of c.args.nodes.now.items) c.args.a)) c.negation_in.ensures;
}
