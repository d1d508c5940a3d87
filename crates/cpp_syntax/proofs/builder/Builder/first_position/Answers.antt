use Rattle.std.proofs.Common.{rules, ◌≡◌, length, slice_get, Some, None}
use Rattle.cpp_syntax.proofs.NodeValues.{below_at}
use Rattle.cpp_syntax.proofs.LastTrees.{shows_since, first_shown, none_shown}
use Rattle.cpp_syntax.proofs.builder.Builder.first_position.Goals as goal

pub returns-in-Some : goal.returns-in-Some
returns-in-Some c = λ before got e count.
    let i = c.self.inside in
    let there : slice_get i.pending.items c.args.start ≡ Some c.in-Some.id = search rules in
    let shows = shows_since i.base i.nodes i.pending.items i.bodies.items c.args.start c.args.self.now before got c.self.invariant.shows
    c.self.view_is e count in
    first_shown i.nodes i.pending.items c.args.start c.in-Some.id c.node.result.now c.args.other got.trees there c.node.ensures.node shows

pub returns-in-None : goal.returns-in-None
returns-in-None c = λ before got e count.
    let i = c.self.inside in
    let there : slice_get i.pending.items c.args.start ≡ None = search rules in
    let shows = shows_since i.base i.nodes i.pending.items i.bodies.items c.args.start c.args.self.now before got c.self.invariant.shows
    c.self.view_is e count in
    none_shown i.nodes i.pending.items c.args.start c.args.other got.trees there shows

pub node-requires : goal.node-requires
node-requires c =
    let i = c.self.inside in
    let there : slice_get i.pending.items c.args.start ≡ Some c.in-Some.id = search rules in
    below_at (length i.nodes) i.pending.items c.args.start c.in-Some.id c.self.invariant.below there
