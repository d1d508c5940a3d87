use Rattle.std.proofs.Common.{◌≡◌, List, Some, None, refl, sym, ◌∙◌, ap, subst, length}
use Rattle.cpp_ast.proofs.NodeTrees.{all_below}
use Rattle.cpp_ast.specs.declared.arena.NodeId.{NodeId}
use Rattle.cpp_ast.specs.declared.units.LamBody.{LamBody}
use Rattle.cpp_ast.specs.Orders.{are_below}
use Rattle.cpp_ast.specs.Trees.{Trees, ShowsAllWith}
use Rattle.cpp_syntax.specs.Source.{Source}
use Rattle.cpp_syntax.specs.Lookahead.{IsUnit}
use Rattle.cpp_parse.specs.NotedBodies.{AreWithin, IsOnceEach}
use Rattle.cpp_parse.specs.Units.{deepest_allowed}
use Rattle.cpp_parse_expr.specs.Depths.{deep_kid, IsNotedIn}
use Rattle.cpp_parse.proofs.UnitRead.{are_within, are_once, held_once, too_deep, is_shallow}
use Rattle.cpp_parse.proofs.parse.measure.Goals as goal

pub bodies_by_node-requires-clause-within : goal.bodies_by_node-requires-clause-within
bodies_by_node-requires-clause-within c =
    subst (λ (bs : List LamBody). AreWithin (length c.args.whole.nodes) bs) (sym c.deref.ensures.value)
    (are_within c.args.whole.nodes c.args.whole.decls.items c.args.whole.bodies.items c.requires.read.decls c.requires.read.known)

pub bodies_by_node-requires-clause-once : goal.bodies_by_node-requires-clause-once
bodies_by_node-requires-clause-once c =
    subst IsOnceEach (sym c.deref.ensures.value) (are_once c.args.whole.nodes c.args.whole.decls.items c.args.whole.bodies.items
    c.requires.read.decls c.requires.read.known)

pub first_deep_kid-requires-clause-below : goal.first_deep_kid-requires-clause-below
first_deep_kid-requires-clause-below c =
    ap (are_below (length c.args.whole.nodes)) c.deref-3.ensures.value ∙ all_below c.args.whole.bodies.items c.args.whole.nodes
    c.args.whole.decls.items c.requires.read.decls c.requires.read.known.shows

pub returns-in-Some : goal.returns-in-Some
returns-in-Some c =
    let here = rw c.in-Some.is at c.in_ok-position.ensures in
    let noted : IsNotedIn c.args.whole.bodies.items c.deref-2.result.now = subst (λ (bs : List LamBody). IsNotedIn bs c.deref-2.result.now)
    c.deref.ensures.value (subst (IsNotedIn c.deref.result.now) (sym c.deref-2.ensures.value) c.in_ok-noted.ensures.noted) in
    let deep : Some c.in-Some.position ≡ deep_kid deepest_allowed 1 c.requires.read.decls = here c.args.whole.bodies.items c.requires.read.decls
    noted (subst (λ (ids : List NodeId). ShowsAllWith c.args.whole.bodies.items c.args.whole.nodes ids c.requires.read.decls)
    (sym c.deref-3.ensures.value) c.requires.read.known.shows) in
    too_deep c.args.source _ c.args.types.now c.requires.read.decls c.in-Some.position c.token_at-token.result c.requires.types
    c.requires.read.derives c.requires.read.only deep c.token_at-token.ensures.inside c.token_at-token.ensures.position

pub returns : goal.returns
returns c =
    let here = rw c.in_default.is at c.in_ok-position.ensures in
    let noted : IsNotedIn c.args.whole.bodies.items c.deref-2.result.now = subst (λ (bs : List LamBody). IsNotedIn bs c.deref-2.result.now)
    c.deref.ensures.value (subst (IsNotedIn c.deref.result.now) (sym c.deref-2.ensures.value) c.in_ok-noted.ensures.noted) in
    let low : None ≡ deep_kid deepest_allowed 1 c.requires.read.decls = (here c.args.whole.bodies.items c.requires.read.decls noted
    (subst (λ (ids : List NodeId). ShowsAllWith c.args.whole.bodies.items c.args.whole.nodes ids c.requires.read.decls)
    (sym c.deref-3.ensures.value) c.requires.read.known.shows)).0 in
    record {
      decls = c.requires.read.decls;
      derives = subst (λ (z : Source). IsUnit z c.requires.read.decls) c.requires.types c.requires.read.derives;
      only = subst (λ (z : Source). (other : Trees) → IsUnit z other → other ≡ c.requires.read.decls) c.requires.types c.requires.read.only;
      shallow = is_shallow c.args.types.now c.requires.read.decls low;
      shows = record {
        source_is = refl;
        tokens_are = c.in_ok-tokens.ensures;
        shows = c.requires.read.known.shows;
        tree = record {
          each = held_once c.args.whole.nodes c.args.whole.decls.items c.args.whole.bodies.items c.requires.read.decls c.requires.read.known;
          bodies = (are_once c.args.whole.nodes c.args.whole.decls.items c.args.whole.bodies.items c.requires.read.decls c.requires.read.known).each;
        };
      };
    }
