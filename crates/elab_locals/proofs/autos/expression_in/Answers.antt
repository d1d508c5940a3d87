use Rattle.std.proofs.Common.{◌≡◌, ◌∙◌, ap}
use Rattle.elab_scopes.specs.elab_types.Syntax.{syntax_of, tree_at, trees_at}
use Rattle.elab_locals.proofs.OneValue.{equal_in, value_in}
use Rattle.elab_locals.proofs.autos.expression_in.Goals as goal

pub returns-in-EqualInitializer-clause-is : goal.returns-in-EqualInitializer-clause-is
returns-in-EqualInitializer-clause-is c = equal_in (tree_at (syntax_of c.args.nodes.now) c.args.id) _ _ _ _
    (trees_at (syntax_of c.args.nodes.now) c.deref.result.now) _ c.node_at-node.ensures.node c.in-EqualInitializer.is
    (ap (trees_at (syntax_of c.args.nodes.now)) c.deref.ensures.value) c.equal_value.ensures.is

pub returns-in_default-clause-is : goal.returns-in_default-clause-is
returns-in_default-clause-is c = value_in (tree_at (syntax_of c.args.nodes.now) c.args.id) _ _ _ _
    (trees_at (syntax_of c.args.nodes.now) c.deref-in_default.result.now) _ c.node_at-node.ensures.node c.in_default.not-EqualInitializer
    (ap (trees_at (syntax_of c.args.nodes.now)) c.deref-in_default.ensures.value) c.only_value.ensures.is
