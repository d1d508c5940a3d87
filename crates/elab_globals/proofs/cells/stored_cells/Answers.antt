use Rattle.std.proofs.Common.{sym, subst}
use Rattle.elab_rules.specs.cpp_tree.declared.faults.ElabFault.{ElabFault}
use Rattle.elab_rules.specs.cpp_tree.declared.kinds.TKind.TheVariants.{Store}
use Rattle.elab_rules.specs.cpp_tree.Arena.{trees_of, trees_at}
use Rattle.elab_rules.specs.elab_ctx.Ctx.{ctx_of, work_of}
use Rattle.elab_rules.specs.elab_ctx.Says.{Faults}
use Rattle.elab_globals.specs.Cells.{stored_cells}
use Rattle.elab_globals.proofs.CellLists.{not_one}
use Rattle.elab_globals.proofs.cells.stored_cells.Goals as goal

pub returns-then-kids-ne1 : goal.returns-then-kids-ne1
returns-then-kids-ne1 c = subst (λ (e : ElabFault). Faults e
    (stored_cells (ctx_of c.args.env.now) (work_of c.args.work.now) (Store c.args.kind c.args.volatile) c.args.at
    (trees_at (trees_of c.args.work.now.nodes.items) c.args.kids.now))) (sym c.ill.ensures)
    (not_one (ctx_of c.args.env.now) (work_of c.args.work.now) c.args.kind c.args.volatile c.args.at
    (trees_of c.args.work.now.nodes.items) c.args.kids.now c.if-kids-ne1.true)
