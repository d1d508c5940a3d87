use Rattle.std.proofs.Common.{rules}
use Rattle.cpp_syntax.proofs.BuilderMarks.{mark_behind}
use Rattle.cpp_syntax.proofs.BuilderViews.{since}
use Rattle.cpp_syntax.proofs.GatheredNodes.{all_of_each}
use Rattle.cpp_syntax.proofs.builder.Builder.checkpoint.Goals as goal

pub returns : goal.returns
returns c =
    let i = c.self.inside in
    mark_behind i.base i.nodes i.pending.items i.totals.items i.bodies.items c.args.self.now c.len.result c.self.view_is c.self.invariant (search rules)
