use Rattle.elab_casts.specs.cpp_tree.Arena.{trees_of}
use Rattle.elab_casts.specs.elab_ctx.Ctx.{ctx_of, work_of}
use Rattle.elab_rows.proofs.Piecing.{Piecing}
use Rattle.elab_rows.proofs.closures.captured_pieces.Given as goal

abbrev pub invariant-members : goal.invariant-members
invariant-members l = Piecing (ctx_of l.env) (work_of l.fn.work) l.parts l.captures l.i (trees_of l.fn.work.nodes.items) (trees_of l.work.nodes.items)
    (work_of l.work) l.list.items
