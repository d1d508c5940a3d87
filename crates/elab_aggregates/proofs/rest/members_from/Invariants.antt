use Rattle.std.proofs.Common.{drop, map}
use Rattle.elab_make.specs.cpp_types.Class.{member_of}
use Rattle.elab_make.specs.cpp_types.Typ.{typ_of}
use Rattle.elab_make.specs.cpp_tree.Arena.{trees_of, tree_at}
use Rattle.elab_make.specs.elab_ctx.Ctx.{ctx_of, work_of}
use Rattle.elab_make.specs.elab_rules.Braces.{rest_members}
use Rattle.elab_aggregates.proofs.Making.{Making}
use Rattle.elab_aggregates.proofs.rest.members_from.Given as goal

abbrev pub invariant-loop-index : goal.invariant-loop-index
invariant-loop-index l = Making (trees_of l.fn.work.nodes.items) (trees_of l.work.nodes.items) l.list.items
    (rest_members (ctx_of l.env) (work_of l.work) l.at (tree_at (trees_of l.fn.work.nodes.items) l.object) (typ_of l.whole) l.class l.index
    (map member_of (drop l.index l.members))) (rest_members (ctx_of l.env) (work_of l.fn.work) l.at (tree_at (trees_of l.fn.work.nodes.items) l.object)
    (typ_of l.whole) l.class l.from (map member_of (drop l.from l.members)))
