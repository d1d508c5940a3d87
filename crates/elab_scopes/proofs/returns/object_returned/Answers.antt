use Rattle.std.proofs.Common.{false}
use Rattle.elab_expr.specs.cpp_tree.declared.kinds.TKind.TheVariants as forms
use Rattle.elab_expr.specs.cpp_tree.Trees.{Tree, two}
use Rattle.elab_expr.specs.elab_rules.Statements.{statement}
use Rattle.elab_expr.proofs.elab_ops.Steps.{both_ok}
use Rattle.elab_scopes.proofs.returns.object_returned.Goals as goal

pub returns : goal.returns
returns c = both_ok _ _ _ _ _ _ _ (λ (x y : Tree). statement (forms.Block false) c.args.at
    (two x y)) _ _ c.in_ok-built.ensures c.in_ok-end.ensures c.binary_statement.ensures
