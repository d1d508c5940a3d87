use Rattle.std.proofs.Common.{rules, ◌≡◌, List, length, drop, true, sym, ◌∙◌, ap, subst}
use Rattle.cpp_ast.specs.Orders.{are_below}
use Rattle.cpp_ast.specs.declared.arena.NodeId.{NodeId}
use Rattle.cpp_ast.specs.Trees.{ShowsAll}
use Rattle.cpp_syntax.proofs.LastTrees.{shows_since}
use Rattle.cpp_syntax.proofs.NodeValues.{below_drop}
use Rattle.cpp_syntax.proofs.builder.Builder.declared.Goals as goal

pub named_by-requires : goal.named_by-requires
named_by-requires c =
    let i = c.self.inside in
    let same : c.from_index.result.now ≡ drop c.args.start i.pending.items = search rules in
    ap (λ (is : List NodeId). are_below (length i.nodes) is) same ∙ below_drop (length i.nodes) c.args.start i.pending.items c.self.invariant.below

pub returns : goal.returns
returns c = λ before got e count.
    let i = c.self.inside in
    let same : c.from_index.result.now ≡ drop c.args.start i.pending.items = search rules in
    let shows = shows_since i.base i.nodes i.pending.items i.bodies.items c.args.start c.args.self.now before got c.self.invariant.shows
    c.self.view_is e count in
    c.named_by.ensures got.trees (subst (λ (is : List NodeId). ShowsAll i.nodes is got.trees) (sym same) shows)
