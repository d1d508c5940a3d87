use Rattle.std.proofs.Common.{◌≡◌, drop, map}
use Rattle.elab_make.specs.cpp_tree.Arena.{trees_of}
use Rattle.elab_make.specs.elab_ctx.Ctx.{default_of}
use Rattle.elab_make.specs.elab_rules.Braces.{default_at}
use Rattle.elab_aggregates.proofs.defaults.default_at.Given as goal

abbrev pub invariant-loop-found : goal.invariant-loop-found
invariant-loop-found l = default_at l.class l.member (map (default_of (trees_of l.env.default_nodes.items)) (drop l.found-index l.env.defaults.items))
    ≡ default_at l.class l.member (map (default_of (trees_of l.env.default_nodes.items)) l.env.defaults.items)
