use Rattle.std.proofs.Common.{◌≤◌, length, drop, map}
use Rattle.elab_init.specs.cpp_tree.Arena.{trees_of}
use Rattle.elab_init.specs.elab_ctx.Ctx.{ctx_of}
use Rattle.elab_init.specs.elab_ctx.Says.{AddsAll}
use Rattle.elab_init.specs.elab_rules.Objects.{backwards, destroys_at}
use Rattle.elab_init.specs.Parts.{part_of}
use Rattle.elab_make.proofs.destructions.destroys_back.Given as goal

abbrev pub decreases-parts : goal.decreases-parts
decreases-parts l = l.left

abbrev pub invariant-parts : goal.invariant-parts
invariant-parts l = (l.left ≤ length l.parts) × AddsAll (trees_of l.fn.nodes.items) (trees_of l.nodes.items) l.ids.items
    (backwards (destroys_at (ctx_of l.env) l.at) (map part_of (drop l.left l.parts)))
