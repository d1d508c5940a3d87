use Rattle.std.proofs.Common.{rules, length}
use Rattle.cpp_syntax.specs.View.{lams_of}
use Rattle.cpp_syntax.proofs.GatheredNodes.{built_gathered, no_lambda}
use Rattle.cpp_syntax.proofs.BuilderViews.{node_shown}
use Rattle.cpp_syntax.proofs.builder.Builder.node.Goals as goal

pub invariant_of-self-2 : goal.invariant_of-self-2
invariant_of-self-2 c =
    let i = c.self.inside in
    built_gathered i.base i.nodes c.gather.new.nodes i.pending.items c.gather.new.ids.items c.args.start c.in_ok-gather.field-0 c.args.kind c.args.at
    c.args.token i.totals.items c.push_reserved.new.self.items i.bodies.items i.bodies.items
    c.in_ok-gather.ensures.gathered c.self.invariant (search rules) (no_lambda c.args.kind (length i.nodes) (lams_of i.bodies.items) c.requires)

pub returns-clause-gathered : goal.returns-clause-gathered
returns-clause-gathered c = λ before got e count.
    let i = c.self.inside in
    node_shown i.base i.nodes c.gather.new.nodes i.pending.items c.gather.new.ids.items c.args.start c.in_ok-gather.field-0 c.args.kind c.args.at
    c.args.token i.totals.items i.bodies.items c.args.self.now before got
    c.in_ok-gather.ensures.gathered c.self.invariant c.self.view_is e count
