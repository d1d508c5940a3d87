use Rattle.std.proofs.Common.{false}
use Rattle.elab_conv.specs.cpp_tree.Trees.{Tree}
use Rattle.elab_conv.specs.elab_rules.Operators.{updated}
use Rattle.elab_ops.proofs.Steps.{second_ok}
use Rattle.elab_ops.proofs.updates.updated_by.Goals as goal

pub returns : goal.returns
returns c = second_ok _ _ _ c.args.a.id _ _ (λ (x y : Tree). updated c.args.op c.args.stored c.args.operation false c.args.at
    (record { tree = x; at = c.args.a.at; zero = c.args.a.zero }) y) _ c.requires.left c.in_ok-right.ensures c.updated.ensures
