use Rattle.cpp_syntax.proofs.BuilderParts.{parts_built, parts_grown, parts_shown}
use Rattle.cpp_syntax.proofs.builder.Builder.into_parts.Goals as goal

pub returns-clause-built : goal.returns-clause-built
returns-clause-built c =
    let i = c.self.inside in
    parts_built i.base i.nodes i.pending.items i.totals.items i.bodies.items c.args.self c.self.view_is c.self.invariant

pub returns-clause-grown : goal.returns-clause-grown
returns-clause-grown c =
    let i = c.self.inside in
    parts_grown i.base i.nodes i.pending.items i.bodies.items c.args.self c.self.view_is

pub returns-clause-shown : goal.returns-clause-shown
returns-clause-shown c =
    let i = c.self.inside in
    parts_shown i.base i.nodes i.pending.items i.totals.items i.bodies.items c.args.self c.self.view_is c.self.invariant
