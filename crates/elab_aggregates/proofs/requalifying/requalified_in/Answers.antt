use Rattle.elab_make.specs.cpp_tree.Arena.{trees_of}
use Rattle.elab_aggregates.proofs.Requalification.{plain_adds}
use Rattle.elab_aggregates.proofs.requalifying.requalified_in.Goals as goal

pub returns-then-not-whole-2 : goal.returns-then-not-whole-2
returns-then-not-whole-2 c = plain_adds (trees_of c.args.nodes.now.items) c.args.id c.args.whole.now.is_const c.args.whole.now.is_volatile
    c.if-not-whole.true c.if-not-whole-2.true c.requires
