-- The kids of a `for`.
use Rattle.std.specs.Prelude.{◌<◌, ℕ, List}
use Rattle.elab_locals.specs.cpp_ast.Trees.{Tree, Trees, none, more}
use Rattle.elab_locals.specs.elab_types.Syntax.{tree_at}
use Rattle.elab_stmt.specs.declared.fours.Four.{Four}

abbrev pub four_trees : List Tree → Four → Trees
four_trees ts f = more (tree_at ts f.first) (more (tree_at ts f.test) (more (tree_at ts f.step) (more (tree_at ts f.body) none)))

-- each has a lower number
pub record IsFour (limit : ℕ) (f : Four) : Type 0 where
  pub first : f.first.0 < limit
  pub test : f.test.0 < limit
  pub step : f.step.0 < limit
  pub body : f.body.0 < limit
