-- The kids of a node by their number.
use Rattle.std.specs.Prelude.{◌≡◌, ◌<◌, ℕ, List}
use Rattle.elab_conv.specs.cpp_ast.Trees.{Tree, Trees, none, more}
use Rattle.elab_types.specs.Syntax.{tree_at}
use Rattle.elab_types.specs.declared.kids.Kids.{Kids}
use Rattle.elab_types.specs.declared.kids.Kids.TheVariants as kids

-- four trees or more
pub record AreMany (ts : Trees) : Type 0 where
  pub first : Tree
  pub second : Tree
  pub third : Tree
  pub fourth : Tree
  pub rest : Trees
  pub are : ts ≡ more first (more second (more third (more fourth rest)))

abbrev pub HasKids : List Tree → Kids → Trees → Type 0
HasKids trees kids.None ts = ts ≡ none
HasKids trees (kids.One a) ts = ts ≡ more (tree_at trees a) none
HasKids trees (kids.Two a b) ts = ts ≡ more (tree_at trees a) (more (tree_at trees b) none)
HasKids trees (kids.Three a b c) ts = ts ≡ more (tree_at trees a) (more (tree_at trees b) (more (tree_at trees c) none))
HasKids trees kids.Many ts = AreMany ts

abbrev pub AreLower : ℕ → Kids → Type 0
AreLower limit kids.None = Unit {0}
AreLower limit (kids.One a) = a.0 < limit
AreLower limit (kids.Two a b) = (a.0 < limit) × (b.0 < limit)
AreLower limit (kids.Three a b c) = (a.0 < limit) × (b.0 < limit) × (c.0 < limit)
AreLower limit kids.Many = Unit {0}
