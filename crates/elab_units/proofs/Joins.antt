-- Nodes behind others, and the trees that they show.
use Rattle.std.proofs.Common.{◌≡◌, ◌∙◌, ◌<◌, ◌≤◌, ◌+◌, ◌++◌, ℕ, suc, true, nat_lt, List, [], ◌∷◌, Vec, Global, length, map, get_or, fold, ap, sym, arith, refl}
use Rattle.std.proofs.Common.{append_assoc, append-nil, length-append, lt-ltb}
use Rattle.std.proofs.lemmas.Bool.{and_parts, ltb-true}
use Rattle.std.proofs.lemmas.List.{get_or_append_left}
use Rattle.elab_entry.specs.cpp_types.Typ.{typ_of}
use Rattle.elab_entry.specs.cpp_tree.declared.arena.TNode.{TNode}
use Rattle.elab_entry.specs.cpp_tree.declared.arena.TNodeId.{TNodeId}
use Rattle.elab_entry.specs.cpp_tree.Trees.{Tree, node, Trees, literal}
use Rattle.elab_entry.specs.cpp_tree.Arena.{tree_at, trees_at, tree_of, with_node, trees_of}
use Rattle.elab_entry.specs.elab_rules.Statements.{Body}
use Rattle.elab_entry.specs.elab_scopes.declared.state.Body.{Body as BodyRec}
use Rattle.elab_entry.specs.elab_scopes.States.{body_of}
use Rattle.elab_units.specs.declared.joining.Placed.{Placed}
use Rattle.elab_units.specs.Joined.{placed_in, are_placed, roots_of}
use Rattle.tree_forests.specs.Copies.{OwnForest, IsCopied}
use Rattle.tree_forests.proofs.Behind.{forest_more}

-- Bodies

kept : (ts own : List Tree) (ps : List Placed) → are_placed (length ts) ps ≡ true → map (placed_in (ts ++ own)) ps ≡ map (placed_in ts) ps
kept ts own [] h = refl
kept ts own (p ∷ ps) h =
    let q = and_parts (nat_lt p.tree.0 (length ts)) (are_placed (length ts) ps) h in
    let first : get_or (ts ++ own) p.tree.0 (literal 0) ≡ get_or ts p.tree.0 (literal 0) =
    get_or_append_left ts own (literal 0) p.tree.0 (ltb-true p.tree.0 (length ts) q.0) in
    rw first (rw (kept ts own ps q.1) refl)

placed_more : (n m : ℕ) (ps : List Placed) (p : Placed) → n ≤ m → are_placed n ps ≡ true → p.tree.0 < m → are_placed m (ps ++ p ∷ []) ≡ true
placed_more n m [] p l h k = rw (lt-ltb p.tree.0 m k) refl
placed_more n m (q ∷ ps) p l h k =
    let a = and_parts (nat_lt q.tree.0 n) (are_placed n ps) h in
    let w : q.tree.0 < n = ltb-true q.tree.0 n a.0 in
    rw (lt-ltb q.tree.0 m (omega arith)) (placed_more n m ps p l a.1 k)

pub map_more : {A B : Type 0} (f : A → B) (xs : List A) (x : A) → map f (xs ++ x ∷ []) ≡ map f xs ++ f x ∷ []
map_more f [] x = refl
map_more f (y ∷ xs) x = ap (λ z. f y ∷ z) (map_more f xs x)

-- a copy of a body was put behind these
module _ (old new own : List TNode) (b : BodyRec) (ps qs : List Placed) (t : TNodeId) (w : qs ≡ ps ++ record { func = b.func; tree = t; frame = b.frame } ∷ [])
    (e : own ≡ b.nodes.items) (h : are_placed (length (trees_of old)) ps ≡ true) (c : IsCopied old new t (tree_at (trees_of own) b.tree)) where
  abbrev p : Placed
  p = record { func = b.func; tree = t; frame = b.frame }

  pub body_placed : are_placed (length (trees_of new)) qs ≡ true
  body_placed =
      let all : length (trees_of new) ≡ length (trees_of old) + length c.shown.grows.extra = ap length c.shown.grows.appended
      ∙ length-append (trees_of old) c.shown.grows.extra in
      ap (are_placed (length (trees_of new))) w
      ∙ placed_more (length (trees_of old)) (length (trees_of new)) ps p (omega (arith, all)) h c.shown.within

  pub body_shown : map (placed_in (trees_of new)) qs ≡ map (placed_in (trees_of old)) ps ++ body_of b ∷ []
  body_shown =
      let tree : tree_at (trees_of new) t ≡ tree_at (trees_of b.nodes.items) b.tree = c.shown.is ∙ ap (λ (z : List TNode). tree_at (trees_of z) b.tree) e in
      let last : placed_in (trees_of new) p ≡ body_of b = ap (λ (z : Tree). record { func = b.func; tree = z; frame = map typ_of b.frame.items }) tree in
      ap (map (placed_in (trees_of new))) w ∙ map_more (placed_in (trees_of new)) ps p
      ∙ ap (λ (z : List Body). z ++ placed_in (trees_of new) p ∷ [])
      (ap (λ (z : List Tree). map (placed_in z) ps) c.shown.grows.appended ∙ kept (trees_of old) c.shown.grows.extra ps h)
      ∙ ap (λ (z : Body). map (placed_in (trees_of old)) ps ++ z ∷ []) last

  pub body_forest : OwnForest [] old (roots_of ps) → OwnForest [] new (roots_of qs)
  body_forest f = forest_more [] old new (roots_of ps) (roots_of qs) t f c.forest (ap roots_of w ∙ map_more (λ (z : Placed). z.tree) ps p)

-- Lists that are gone through by value

pub nothing_left : {X : Type 0} (xs : List X) → length xs ≡ 0 → xs ≡ []
nothing_left [] h = refl
nothing_left (x ∷ xs) h = absurd (omega arith)
