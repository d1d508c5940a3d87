-- How trees are stored as a list: behind those that stand beside a tree and behind its kids comes its root, and a mark
-- stands for no trees.
use Rattle.std.specs.Prelude.{◌≡◌, ℕ, List, [], ◌∷◌, Option, Some, None}
use Rattle.std.specs.Coded.{Coded, code_by, coded×, coded_ℕ, coded_list, coded_option}
use mathlib.Core.Path.{refl, ◌∙◌}
use Rattle.cpp_ast.specs.contracts.kinds.NodeKind as kind
use Rattle.cpp_ast.specs.declared.kinds.NodeKind.{NodeKind}
use Rattle.cpp_ast.specs.Trees.{Tree, node, Trees, none, more}

abbrev Root : Type 0
Root = NodeKind × ((ℕ × ℕ) × Option ℕ)

abbrev coded_root : Coded Root
coded_root = coded× (kind.the_row.coded) (coded× (coded× coded_ℕ coded_ℕ) (coded_option coded_ℕ))

-- trees as a list before the rest
abbrev mutual
  stored_before : Tree → List (Option Root) → List (Option Root)
  stored_before (node k at token kids) rest = stored kids (Some (k, ((at.source, at.offset), token)) ∷ rest)

  stored : Trees → List (Option Root) → List (Option Root)
  stored none rest = None ∷ rest
  stored (more t ts) rest = stored ts (stored_before t rest)

abbrev tree_by : Root → Trees → Tree
tree_by root kids = node root.0 (record { source = root.1.0.0; offset = root.1.0.1 }) root.1.1 kids

-- the trees of a list, where these came before
abbrev restored : List (Option Root) → List Trees → Trees
restored [] [] = none
restored [] (ts ∷ before) = ts
restored (None ∷ rest) before = restored rest (none ∷ before)
restored (Some root ∷ rest) [] = none
restored (Some root ∷ rest) (kids ∷ []) = none
restored (Some root ∷ rest) (kids ∷ ts ∷ before) = restored rest (more (tree_by root kids) ts ∷ before)

mutual
  pub tree_restored : (t : Tree) (ts : Trees) (rest : List (Option Root)) (before : List Trees)
      → restored (stored_before t rest) (ts ∷ before) ≡ restored rest (more t ts ∷ before)
  tree_restored (node k at token kids) ts rest before = all_restored kids (Some (k, ((at.source, at.offset), token)) ∷ rest) (ts ∷ before)

  pub all_restored : (ts : Trees) (rest : List (Option Root)) (before : List Trees) → restored (stored ts rest) before ≡ restored rest (ts ∷ before)
  all_restored none rest before = refl
  all_restored (more t ts) rest before = all_restored ts (stored_before t rest) before ∙ tree_restored t ts rest before

abbrev pub trees_code : Coded Trees
trees_code = code_by (List (Option Root)) (coded_list (coded_option coded_root)) (λ ts. stored ts []) (λ items. restored items []) (λ ts. all_restored ts [] [])
