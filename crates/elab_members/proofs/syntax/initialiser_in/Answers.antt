use Rattle.std.proofs.Common.{◌∙◌, sym}
use Rattle.elab_entry.specs.elab_types.Syntax.{syntax_of}
use Rattle.elab_members.proofs.SyntaxSteps.{in_next, in_none, found_first, found_behind}
use Rattle.elab_members.proofs.syntax.initialiser_in.Goals as goal

pub returns-in-Some-clause-tree : goal.returns-in-Some-clause-tree
returns-in-Some-clause-tree c = sym (found_first (syntax_of c.args.nodes.now) c.initialiser_of.result c.in-Some.found _ c.in-Some.is)
    ∙ sym (in_next (syntax_of c.args.nodes.now) c.args.ids.now _ _ c.loop-id.id-index
    (record { 0 = 0 }) _ _ _ c.initialiser_of.result c.loop-id-test.true c.node_at-node.ensures.node c.deref.ensures.value c.initialiser_of.ensures.tree)
    ∙ c.loop-id.invariant

pub loop-id-preserved : goal.loop-id-preserved
loop-id-preserved c = sym (found_behind (syntax_of c.args.nodes.now) c.initialiser_of.result _ c.in-None.is)
    ∙ sym (in_next (syntax_of c.args.nodes.now) c.args.ids.now _ _ c.loop-id.id-index
    (record { 0 = 0 }) _ _ _ c.initialiser_of.result c.loop-id-test.true c.node_at-node.ensures.node c.deref.ensures.value c.initialiser_of.ensures.tree)
    ∙ c.loop-id.invariant

pub returns-clause-tree : goal.returns-clause-tree
returns-clause-tree c = sym (in_none (syntax_of c.args.nodes.now) c.args.ids.now c.loop-id.id-index c.loop-id-test.false) ∙ c.loop-id.invariant
