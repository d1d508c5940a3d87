use Rattle.std.proofs.Common.{drop, map}
use Rattle.elab_init.specs.cpp_tree.Arena.{trees_of}
use Rattle.elab_init.specs.elab_ctx.Ctx.{ctx_of}
use Rattle.elab_init.specs.elab_rules.Initialising.{closure_pieces}
use Rattle.elab_init.specs.Parts.{part_of}
use Rattle.elab_init.proofs.Listing.{Adding}
use Rattle.elab_make.proofs.closures.closure_pieces.Given as goal

abbrev pub invariant-loop-part : goal.invariant-loop-part
invariant-loop-part l = Adding (trees_of l.fn.nodes.items) (trees_of l.nodes.items) l.kids.items
    (closure_pieces (ctx_of l.env) l.at l.is_const l.is_volatile (map part_of (drop l.part-index l.parts))) (closure_pieces (ctx_of l.env) l.at l.is_const l.is_volatile (map part_of l.parts))
