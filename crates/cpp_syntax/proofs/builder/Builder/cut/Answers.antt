use Rattle.std.proofs.Common.{rules}
use Rattle.cpp_syntax.proofs.BuilderCuts.{built_cut, cut_shown}
use Rattle.cpp_syntax.proofs.builder.Builder.cut.Goals as goal

pub invariant_of-self : goal.invariant_of-self
invariant_of-self c =
    let i = c.self.inside in
    built_cut i.base i.nodes i.pending.items c.truncate.new.self.items c.args.mark.trees i.totals.items c.truncate-2.new.self.items i.bodies.items
    c.truncate-3.new.self.items
    c.self.invariant (search rules) (search rules) (search rules)

pub returns : goal.returns
returns c = λ before got marks e.
    let i = c.self.inside in
    cut_shown i.base i.nodes i.pending.items c.truncate.new.self.items c.args.mark i.totals.items c.truncate-2.new.self.items i.bodies.items
    c.truncate-3.new.self.items c.args.self.now before got
    c.self.invariant c.self.view_is (search rules) (search rules) (search rules) marks e
