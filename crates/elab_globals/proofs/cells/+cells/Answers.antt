use Rattle.std.proofs.Common.{map, get_or, refl}
use Rattle.elab_rules.specs.cpp_tree.declared.arena.TNodeId.{TNodeId}
use Rattle.elab_rules.specs.cpp_tree.Arena.{trees_of, tree_at}
use Rattle.elab_rules.specs.cpp_tree.Units.{cell_of}
use Rattle.elab_rules.specs.elab_ctx.Ctx.{ctx_of, work_of}
use Rattle.elab_globals.specs.Says.{cells_shown}
use Rattle.elab_globals.proofs.CellLists.{cells_from, cells_say, collecting_more}
use Rattle.elab_globals.proofs.cells.+cells.Goals as goal

pub cells_of-returns : goal.cells_of-returns
cells_of-returns t c = cells_say _ _ _ (cells_from (ctx_of c.args.env.now) (work_of c.args.work.now) (tree_at (trees_of c.args.work.now.nodes.items) c.args.id)
    _ _ _ c.node_at-node.ensures.kind c.node_at-node.ensures.place c.in_ok-kids.ensures.kids) c.cells_by.ensures

pub cells_of_all-loop-kid-preserved : goal.cells_of_all-loop-kid-preserved
cells_of_all-loop-kid-preserved t c =
    let d : TNodeId = record { 0 = 0 } in
    collecting_more (ctx_of c.args.env.now) (work_of c.args.work.now) (trees_of c.args.work.now.nodes.items) c.args.kids.now c.loop-kid.kid-index
    (get_or c.args.kids.now c.loop-kid.kid-index d) d (map cell_of c.loop-kid.cells.items) (cells_shown c.in_ok-more.more)
    (map cell_of c.keep_cells.new.cells.items) c.loop-kid.invariant c.loop-kid-test.true refl c.in_ok-more.ensures c.in_ok-keep_cells.ensures
