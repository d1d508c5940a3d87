-- Initialisers among the kids of a declarator; nodes by their kinds.
use Rattle.std.proofs.Common.{◌≡◌, ◌∙◌, ◌<◌, ◌≤◌, ◌+◌, ℕ, List, length, drop, get_or, Option, Some, None, option_map, refl, sym, ap}
use Rattle.elab_entry.specs.cpp_ast.Trees as syntax
use Rattle.elab_entry.specs.cpp_ast.declared.arena.NodeId.{NodeId}
use Rattle.elab_entry.specs.cpp_ast.declared.arena.At.{At as SyntaxAt}
use Rattle.elab_entry.specs.cpp_ast.declared.kinds.NodeKind.{NodeKind}
use Rattle.elab_entry.specs.cpp_ast.declared.kinds.NodeKind.TheVariants as k
use Rattle.elab_entry.specs.elab_rules.Members.{initialiser_in}
use Rattle.elab_entry.specs.elab_types.Syntax.{tree_at, trees_at}
use Rattle.elab_entry.proofs.elab_init.Listing.{drop_step, drop_past}
use Rattle.elab_members.specs.Initialisers.{only_tree, initialiser_by, either_tree}

in_first : (kind : NodeKind) (p : SyntaxAt) (token : Option ℕ) (kids ts : syntax.Trees)
    → initialiser_in (syntax.more (syntax.node kind p token kids) ts) ≡ either_tree (initialiser_by kind (only_tree kids)) (initialiser_in ts)
in_first k.EqualInitializer p token syntax.none ts = refl
in_first k.EqualInitializer p token (syntax.more e syntax.none) ts = refl
in_first k.EqualInitializer p token (syntax.more e (syntax.more f es)) ts = refl
in_first k.PureSpecifier p token syntax.none ts = refl
in_first k.PureSpecifier p token (syntax.more e syntax.none) ts = refl
in_first k.PureSpecifier p token (syntax.more e (syntax.more f es)) ts = refl
in_first kind p token kids ts = refl

-- an initialiser is the first of what is left, or it stands behind that
pub in_next : (ts : List syntax.Tree) (ids those kids : List NodeId) (i : ℕ) (d : NodeId) (kind : NodeKind) (p : SyntaxAt) (token : Option ℕ)
    (found : Option NodeId) → i < length ids → tree_at ts (get_or ids i d) ≡ syntax.node kind p token (trees_at ts kids) → those ≡ kids
    → option_map (tree_at ts) found ≡ initialiser_by kind (only_tree (trees_at ts those))
    → initialiser_in (trees_at ts (drop i ids)) ≡ either_tree (option_map (tree_at ts) found) (initialiser_in (trees_at ts (drop (i + 1) ids)))
in_next ts ids those kids i d kind p token found h e q f =
    ap (λ (z : List NodeId). initialiser_in (trees_at ts z)) (drop_step ids i d h)
    ∙ ap (λ (z : syntax.Tree). initialiser_in (syntax.more z (trees_at ts (drop (i + 1) ids)))) e
    ∙ in_first kind p token (trees_at ts kids) (trees_at ts (drop (i + 1) ids))
    ∙ ap (λ (z : List NodeId). either_tree (initialiser_by kind (only_tree (trees_at ts z))) (initialiser_in (trees_at ts (drop (i + 1) ids)))) (sym q)
    ∙ ap (λ (z : Option syntax.Tree). either_tree z (initialiser_in (trees_at ts (drop (i + 1) ids)))) (sym f)

pub in_none : (ts : List syntax.Tree) (ids : List NodeId) (i : ℕ) → length ids ≤ i → initialiser_in (trees_at ts (drop i ids)) ≡ None
in_none ts ids i h = ap (λ (z : List NodeId). initialiser_in (trees_at ts z)) (drop_past ids i h)

pub found_first : (ts : List syntax.Tree) (o : Option NodeId) (id : NodeId) (rest : Option syntax.Tree) → o ≡ Some id
    → either_tree (option_map (tree_at ts) o) rest ≡ Some (tree_at ts id)
found_first ts o id rest e = ap (λ (z : Option NodeId). either_tree (option_map (tree_at ts) z) rest) e

pub found_behind : (ts : List syntax.Tree) (o : Option NodeId) (rest : Option syntax.Tree) → o ≡ None → either_tree (option_map (tree_at ts) o) rest ≡ rest
found_behind ts o rest e = ap (λ (z : Option NodeId). either_tree (option_map (tree_at ts) z) rest) e
