use Rattle.std.proofs.Common.{◌∙◌, sym, ap, arith}
use Rattle.elab_make.specs.cpp_tree.Arena.{trees_of, tree_at}
use Rattle.elab_make.specs.elab_rules.Values.{only_tree}
use Rattle.elab_make.proofs.elab_init.Wholes.{many_trees}
use Rattle.elab_aggregates.proofs.relocating.only_kid_or.Goals as goal

pub returns-in_default-2-clause-is : goal.returns-in_default-2-clause-is
returns-in_default-2-clause-is c = let h = c.in_default.len_at_least in
    sym (ap (λ z. only_tree z (tree_at (trees_of c.args.nodes.now.items) c.args.id)) c.in_ok-kids_at.ensures.kids
    ∙ many_trees (trees_of c.args.nodes.now.items) c.in_ok-kids_at.field-0.now (tree_at (trees_of c.args.nodes.now.items) c.args.id) (omega arith))
