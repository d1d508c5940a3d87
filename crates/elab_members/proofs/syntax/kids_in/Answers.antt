use Rattle.std.proofs.Common.{◌≡◌, ◌∙◌, true, List, length, ap, subst, sym}
use Rattle.elab_entry.specs.cpp_ast.Orders.{are_below}
use Rattle.elab_entry.specs.cpp_ast.declared.arena.NodeId.{NodeId}
use Rattle.elab_entry.specs.elab_rules.Lambdas.{kids_of}
use Rattle.elab_entry.specs.elab_types.Syntax.{syntax_of, trees_at}
use Rattle.elab_entry.proofs.elab_types.KidLists.{wider}
use Rattle.elab_members.proofs.syntax.kids_in.Goals as goal

pub returns-clause-below : goal.returns-clause-below
returns-clause-below c = subst (λ (z : List NodeId). are_below (length c.args.nodes.now) z ≡ true) (sym c.deref.ensures.value)
    (wider c.args.id.0 (length c.args.nodes.now) c.node_at-node.result.now.kids.items c.requires c.node_at-node.ensures.lower)

pub returns-clause-kids : goal.returns-clause-kids
returns-clause-kids c = ap (trees_at (syntax_of c.args.nodes.now)) c.deref.ensures.value ∙ sym (ap kids_of c.node_at-node.ensures.node)
