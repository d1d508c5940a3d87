use Rattle.elab_make.specs.elab_ctx.Ctx.{work_of, default_of}
use Rattle.elab_make.specs.cpp_tree.Arena.{trees_of}
use Rattle.elab_aggregates.proofs.Aggregated.{part_put}
use Rattle.elab_aggregates.proofs.defaults.default_made.Goals as goal

pub returns : goal.returns
returns c = part_put _ _ (work_of c.args.work.now) _ _
    (default_of (trees_of c.args.env.now.default_nodes.items) c.args.found.now) _ _ c.in_ok-whole.ensures c.as_part.ensures.is c.as_part.ensures.within
