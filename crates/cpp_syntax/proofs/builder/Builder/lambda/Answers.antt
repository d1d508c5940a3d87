use Rattle.std.proofs.Common.{rules, length, Some}
use Rattle.cpp_ast.specs.declared.kinds.NodeKind.TheVariants.{Lambda}
use Rattle.cpp_syntax.specs.View.{lams_of}
use Rattle.cpp_syntax.proofs.GatheredNodes.{built_gathered, one_lambda}
use Rattle.cpp_syntax.proofs.BuilderViews.{lambda_shown}
use Rattle.cpp_syntax.proofs.builder.Builder.lambda.Goals as goal

pub invariant_of-self-2 : goal.invariant_of-self-2
invariant_of-self-2 c =
    let i = c.self.inside in
    let g = c.in_ok-lam.ensures.gathered in
    built_gathered i.base i.nodes c.gather.new.nodes i.pending.items c.gather.new.ids.items c.args.start c.in_ok-lam.lam Lambda c.args.at
    (Some c.args.token) i.totals.items c.push_reserved-2.new.self.items i.bodies.items c.push_reserved.new.self.items
    g c.self.invariant (search rules) (one_lambda i.nodes c.in_ok-lam.lam c.args.from c.args.to i.bodies.items c.push_reserved.new.self.items g.index
    (search rules))

pub returns-clause-gathered : goal.returns-clause-gathered
returns-clause-gathered c = λ before got e count.
    let i = c.self.inside in
    lambda_shown i.base i.nodes c.gather.new.nodes i.pending.items c.gather.new.ids.items c.args.start c.in_ok-lam.lam c.args.at c.args.token
    c.args.from c.args.to i.totals.items i.bodies.items c.push_reserved.new.self.items c.args.self.now before got
    c.in_ok-lam.ensures.gathered c.self.invariant c.self.view_is (search rules) e count
