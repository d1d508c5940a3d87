use Rattle.std.proofs.Common.{subst}
use Rattle.elab_init.specs.cpp_tree.Arena.{Adds, trees_of}
use Rattle.elab_init.specs.elab_ctx.Ctx.{ctx_of}
use Rattle.elab_init.specs.elab_rules.Objects.{Part}
use Rattle.elab_init.specs.elab_rules.Initialising.{closure_piece}
use Rattle.elab_make.proofs.Putting.{closure_added, closure_done}
use Rattle.elab_make.proofs.closures.closure_pieces.Goals as goal

pub loop-part-preserved : goal.loop-part-preserved
loop-part-preserved c = closure_added (ctx_of c.args.env.now) c.args.at c.args.is_const c.args.is_volatile c.args.parts.now _ c.part-item.result _ _ _ _ _ _ _
    c.loop-part.invariant c.loop-part-test.true c.part-item.is
    (subst (λ (z : Part). Adds (trees_of c.loop-part.nodes.items) (trees_of c.closure_piece.new.nodes.items) c.in_ok-kid.kid
    (closure_piece (ctx_of c.args.env.now) c.args.at z)) c.in_ok-part.ensures c.in_ok-kid.ensures)
    c.in_ok-keep.ensures

pub returns : goal.returns
returns c = closure_done (ctx_of c.args.env.now) c.args.at c.args.is_const c.args.is_volatile c.args.parts.now _ _ _ _ c.loop-part.invariant c.loop-part-test.false
