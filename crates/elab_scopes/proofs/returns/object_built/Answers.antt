use Rattle.elab_expr.specs.cpp_tree.declared.kinds.TKind.TheVariants as forms
use Rattle.elab_expr.specs.cpp_tree.Trees.{Tree, two}
use Rattle.elab_expr.specs.elab_rules.Statements.{statement}
use Rattle.elab_expr.proofs.elab_ops.Steps.{both_ok}
use Rattle.elab_scopes.proofs.returns.object_built.Goals as goal

pub returns : goal.returns
returns c = both_ok _ _ _ _ _ _ _ (λ (x y : Tree). statement forms.Init c.args.at
    (two y x)) _ _ c.in_ok-whole.ensures c.in_ok-object.ensures c.binary_statement.ensures
