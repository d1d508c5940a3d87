use Rattle.std.proofs.Common.{subst, IfOk}
use Rattle.tree_forests.proofs.Copied.{whole}
use Rattle.tree_forests.specs.Copies.{IsCopied}
use Rattle.tree_forests.proofs.copying.copy_tree.Goals as goal

pub returns : goal.returns
returns c = subst (λ t. IfOk c.copy_before.result (λ r. IsCopied c.args.nodes.now.items c.copy_before.new.nodes.items r t))
    (whole c.args.from.now c.args.id) c.copy_before.ensures
