use Rattle.std.proofs.Common.{◌+◌, ◌*◌, drop, map}
use Rattle.elab_rules.specs.cpp_tree.Arena.{trees_of}
use Rattle.elab_rules.specs.cpp_tree.Units.{cell_of}
use Rattle.elab_rules.specs.elab_ctx.Ctx.{ctx_of, work_of}
use Rattle.elab_globals.proofs.CellLists.{Collecting}
use Rattle.elab_globals.proofs.cells.+cells.Given as goal

abbrev pub decreases-cells_of : goal.decreases-cells_of
decreases-cells_of l = 3 * l.id.0 + 2

abbrev pub decreases-cells_by : goal.decreases-cells_by
decreases-cells_by l = 3 * l.limit + 1

abbrev pub decreases-piece_cells : goal.decreases-piece_cells
decreases-piece_cells l = 3 * l.limit

abbrev pub decreases-cells_of_all : goal.decreases-cells_of_all
decreases-cells_of_all l = 3 * l.limit

abbrev pub invariant-cells_of_all-loop-kid : goal.invariant-cells_of_all-loop-kid
invariant-cells_of_all-loop-kid l = Collecting (ctx_of l.env) (work_of l.work) (trees_of l.work.nodes.items) l.kids (drop l.kid-index l.kids)
    (map cell_of l.cells.items)
