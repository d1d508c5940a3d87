-- The kids of a node and the trees that they show.
use Rattle.std.proofs.Common.{◌≡◌, ℕ, zero, suc, ◌+◌, ◌<◌, ◌≤◌, List, [], ◌∷◌, length, drop, get_or, slice_get, drop-cons, Some, refl, sym, ◌∙◌, ap, subst}
use Rattle.std.proofs.Common.{arith}
use Rattle.cpp_ast.specs.declared.arena.Node.{Node}
use Rattle.cpp_ast.specs.declared.arena.NodeId.{NodeId}
use Rattle.cpp_ast.specs.Trees.{Tree, node, Trees, none, more, kind_of, Shows, ShowsAll}

-- the first of some ids and the others
pub record Front (nodes : List Node) (id : NodeId) (ids : List NodeId) (trees : Trees) : Type 0 where
  pub first : Tree
  pub others : Trees
  pub are : trees ≡ more first others
  pub shows : Shows nodes id.0 first
  pub show : ShowsAll nodes ids others

pub front_of : (nodes : List Node) (all ids : List NodeId) (id : NodeId) (trees : Trees) → all ≡ id ∷ ids → ShowsAll nodes all trees → Front nodes id ids trees
front_of nodes all ids id none e s = absurd (let f : all ≡ [] = s in cc)
front_of nodes all ids id (more t ts) e s =
    let f : all ≡ s.0 ∷ s.1 = s.2 in
    let first : s.0 ≡ id = cc in
    let others : s.1 ≡ ids = cc in
    record {
      first = t;
      others = ts;
      are = refl;
      shows = subst (λ (i : NodeId). Shows nodes i.0 t) first s.3;
      show = subst (λ (is : List NodeId). ShowsAll nodes is ts) others s.4;
    }

pub front_at : (nodes : List Node) (ids : List NodeId) (i : ℕ) (id d : NodeId) (trees : Trees) → i < length ids → id ≡ get_or ids i d
    → ShowsAll nodes (drop i ids) trees → Front nodes id (drop (i + 1) ids) trees
front_at nodes ids i id d trees inside at s =
    let next : suc i ≡ i + 1 = omega arith in
    front_of nodes (drop i ids) (drop (i + 1) ids) id trees (drop-cons ids i d inside ∙ ap (λ (k : ℕ). get_or ids i d ∷ drop k ids) next ∙ ap
    (λ (j : NodeId). j ∷ drop (i + 1) ids) (sym at)) s

pub drop-past : (i : ℕ) (ids : List NodeId) → length ids ≤ i → drop i ids ≡ []
drop-past zero [] h = refl
drop-past zero (id ∷ ids) h = absurd (omega (arith, h))
drop-past (suc i) [] h = refl
drop-past (suc i) (id ∷ ids) h = drop-past i ids (omega (arith, h))

none_of : (nodes : List Node) (ids : List NodeId) (trees : Trees) → ids ≡ [] → ShowsAll nodes ids trees → trees ≡ none
none_of nodes ids none e s = refl
none_of nodes ids (more t ts) e s = absurd (let f : ids ≡ s.0 ∷ s.1 = s.2 in cc)

pub none_past : (nodes : List Node) (ids : List NodeId) (i : ℕ) (trees : Trees) → length ids ≤ i → ShowsAll nodes (drop i ids) trees → trees ≡ none
none_past nodes ids i trees past s = none_of nodes (drop i ids) trees (drop-past i ids past) s

-- what a node shows, by its parts
pub record Parts (nodes : List Node) (found : Node) (tree : Tree) : Type 0 where
  pub kids : Trees
  pub is : tree ≡ node found.kind found.at found.token kids
  pub shows : ShowsAll nodes found.kids.items kids

pub parts_of : (nodes : List Node) (id : ℕ) (found : Node) (tree : Tree) → slice_get nodes id ≡ Some found → Shows nodes id tree → Parts nodes found tree
parts_of nodes id found (node k at token kids) stands s =
    let there : slice_get nodes id ≡ Some (s.0).found = (s.0).stands in
    let same : (s.0).found ≡ found = cc in
    let kind_is : k ≡ found.kind = sym (s.0).kind_is ∙ ap (λ (n : Node). n.kind) same in
    let at_is : at ≡ found.at = sym (s.0).at_is ∙ ap (λ (n : Node). n.at) same in
    let token_is : token ≡ found.token = sym (s.0).token_is ∙ ap (λ (n : Node). n.token) same in
    record {
      kids = kids;
      is = cc;
      shows = subst (λ (n : Node). ShowsAll nodes n.kids.items kids) same s.1;
    }

pub kind_is : (nodes : List Node) (id : ℕ) (found : Node) (tree : Tree) → slice_get nodes id ≡ Some found → Shows nodes id tree → kind_of tree ≡ found.kind
kind_is nodes id found tree stands s = ap kind_of (parts_of nodes id found tree stands s).is
