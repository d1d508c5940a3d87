use Rattle.std.proofs.Common.{rules, ◌≡◌, ◌<◌, ◌≤◌, List, length, slice_get, Some, true, refl, sym, ◌∙◌, ap, subst, arith}
use Rattle.cpp_ast.specs.Orders.{are_below}
use Rattle.cpp_ast.specs.declared.arena.NodeId.{NodeId}
use Rattle.cpp_ast.specs.Trees.{Trees, ShowsAll}
use Rattle.cpp_syntax.specs.Gathers.{Leads}
use Rattle.cpp_syntax.proofs.NodeValues.{below_more}
use Rattle.cpp_syntax.proofs.DeclaredNames.{next_of}
use Rattle.cpp_syntax.proofs.arena.name_of_node.Goals as goal

pub first_of_declarator-requires : goal.first_of_declarator-requires
first_of_declarator-requires c =
    let inside : c.names.at.0 < length c.args.nodes.now = c.names.invariant.0 in
    ap (λ (is : List NodeId). are_below (length c.args.nodes.now) is) c.deref.ensures.value
    ∙ below_more c.names.at.0 (length c.args.nodes.now) c.node-node.result.now.kids.items (omega (arith, inside)) c.node-node.ensures.lower

pub names-preserved : goal.names-preserved
names-preserved c =
    let inside : c.names.at.0 < length c.args.nodes.now = c.names.invariant.0 in
    let lower : c.in-Some.next.0 < c.names.at.0 = c.in-Some.ensures.below c.names.at.0
    (ap (λ (is : List NodeId). are_below c.names.at.0 is) c.deref.ensures.value ∙ c.node-node.ensures.lower) in (
      omega (arith, inside, lower),
      λ tree shows leads. next_of c.args.nodes.now c.names.at.0 c.in-Some.next.0 c.node-node.result.now tree
          c.node-node.ensures.node (sym c.if-not-leads_to_name.ensures) (subst (λ (is : List NodeId). (trees : Trees) → ShowsAll c.args.nodes.now is
          trees → Leads c.args.nodes.now is c.in-Some.next.0 trees) c.deref.ensures.value c.in-Some.ensures.first)
          (c.names.invariant.1 tree shows leads),
    )
