-- Folded trees in another list.
use Rattle.std.proofs.Common.{◌≡◌, ℕ, ◌+◌, ◌<◌, ◌≤◌, Bool, true, List, [], ◌∷◌, ◌++◌, length, drop, get_or, refl, sym, ◌∙◌, ap, arith, nat_lt, Option, Some}
use Rattle.std.proofs.Common.{None, Result, IfOk}
use Rattle.std.specs.Prelude.{option_map, unwrap_or}
use Rattle.std.specs.declared.alloc.AllocError.{AllocError}
use Rattle.std.proofs.lemmas.Bool.{ltb-true, lt-ltb, and_parts}
use Rattle.std.proofs.lemmas.Option.{slice_get_read}
use Rattle.cpp_tree.specs.cpp_types.Typ.{typ_of}
use Rattle.cpp_tree.specs.cpp_types.declared.ranks.Cat.TheVariants.{Prvalue}
use Rattle.cpp_tree.specs.declared.kinds.TKind.TheVariants.{Literal}
use Rattle.cpp_tree.specs.declared.arena.TNodeId.{TNodeId}
use Rattle.cpp_tree.specs.declared.arena.TNode.{TNode}
use Rattle.cpp_tree.specs.Trees.{Tree, node, Trees, none, more}
use Rattle.cpp_tree.specs.Arena.{IsOrdered, are_below, tree_at, trees_at, tree_of, Adds}
use Rattle.tree_fold.specs.declared.sights.Sight.{Sight}
use Rattle.tree_fold.specs.Folding.{taken, folded, all_folded}
use Rattle.tree_fold.specs.Sights.{folded_at, AreSights, constant_seen, taken_seen, followed_by, Adding}
use Rattle.tree_fold.proofs.Growing.{both_true, adds_same, last_adds, adding_one, adding_done, drop_step, drop_past}
use Rattle.tree_fold.proofs.Seeing.{constant_is, taken_is, tree_with_word, tree_without}

below_more : (a b : ℕ) (ids : List TNodeId) → a ≤ b → are_below a ids ≡ true → are_below b ids ≡ true
below_more a b [] l h = refl
below_more a b (id ∷ ids) l h = let k = and_parts (nat_lt id.0 a) (are_below a ids) h in let m : id.0 < a = ltb-true id.0 a k.0 in let n : id.0 < b =
    omega arith in
    both_true _ _ (lt-ltb id.0 b n) (below_more a b ids l k.1)

pub below_all : (nodes : List TNode) (id : ℕ) (n : TNode) → IsOrdered nodes → id < length nodes → n ≡ get_or nodes id n
    → are_below (length nodes) n.kids.items ≡ true
below_all nodes id n o l h = below_more id (length nodes) n.kids.items (omega arith) (o.lower id n (slice_get_read nodes (length nodes) id n refl l h))

same_below : (m n : ℕ) (ids : List TNodeId) → m ≡ n → are_below n ids ≡ true → are_below m ids ≡ true
same_below m n ids e b = ap (λ (z : ℕ). are_below z ids) e ∙ b

-- the tree of a node that has a value
pub word_copied : (v : ℕ → Bool) (trees a b : List Tree) (sights : List Sight) (many : ℕ) (id : TNodeId) (n : TNode) (w : ℕ) (r : Result TNodeId AllocError)
    → AreSights v trees sights → length sights ≡ many → are_below many n.kids.items ≡ true
    → tree_at trees id ≡ tree_of trees n → Some w ≡ constant_seen sights n.kind (typ_of n.ty) n.cat n.kids.items
    → IfOk r (λ (i : TNodeId). Adds a b i (node (Literal w) (typ_of n.ty) Prvalue n.at none))
    → IfOk r (λ (i : TNodeId). Adds a b i (folded v (tree_at trees id)))
word_copied v trees a b sights many id n w r s l k e c m =
    let known = sym (constant_is v trees sights n.kind (typ_of n.ty) n.cat n.kids.items s (same_below (length sights) many n.kids.items l k)) ∙ sym c in
    adds_same a b r _ _ (sym (tree_with_word v n.kind (typ_of n.ty) n.cat n.at (all_folded v (trees_at trees n.kids.items)) w known) ∙ ap (folded v) (sym e)) m

-- of one that has none
pub rest_copied : (v : ℕ → Bool) (trees a b : List Tree) (sights : List Sight) (many : ℕ) (id : TNodeId) (n : TNode) (r : Result TNodeId AllocError)
    → AreSights v trees sights → length sights ≡ many → are_below many n.kids.items ≡ true
    → tree_at trees id ≡ tree_of trees n → None ≡ constant_seen sights n.kind (typ_of n.ty) n.cat n.kids.items
    → IfOk r (λ (i : TNodeId). Adds a b i (unwrap_or (taken v n.kind (typ_of n.ty) n.cat (all_folded v (trees_at trees n.kids.items)))
    (node n.kind (typ_of n.ty) n.cat n.at (all_folded v (trees_at trees n.kids.items)))))
    → IfOk r (λ (i : TNodeId). Adds a b i (folded v (tree_at trees id)))
rest_copied v trees a b sights many id n r s l k e c m =
    let known = sym (constant_is v trees sights n.kind (typ_of n.ty) n.cat n.kids.items s (same_below (length sights) many n.kids.items l k)) ∙ sym c in
    adds_same a b r _ _ (sym (tree_without v n.kind (typ_of n.ty) n.cat n.at (all_folded v (trees_at trees n.kids.items)) known) ∙ ap (folded v) (sym e)) m

-- of one whose kid is taken
pub kid_copied : (v : ℕ → Bool) (trees a b : List Tree) (sights : List Sight) (many : ℕ) (kid : TNodeId) (n : TNode) (own : Tree)
    (r : Result TNodeId AllocError) → AreSights v trees sights → length sights ≡ many → are_below many n.kids.items ≡ true
    → Some kid ≡ taken_seen sights n.kind (typ_of n.ty) n.cat n.kids.items → IfOk r (λ (i : TNodeId). Adds a b i (folded v (tree_at trees kid)))
    → IfOk r (λ (i : TNodeId). Adds a b i (unwrap_or (taken v n.kind (typ_of n.ty) n.cat (all_folded v (trees_at trees n.kids.items))) own))
kid_copied v trees a b sights many kid n own r s l k c m =
    let known = ap (option_map (folded_at v trees)) c
    ∙ taken_is v trees sights n.kind (typ_of n.ty) n.cat n.kids.items s (same_below (length sights) many n.kids.items l k) in
    adds_same a b r _ _ (ap (λ (z : Option Tree). unwrap_or z own) known) m

pub own_copied : (v : ℕ → Bool) (trees a b : List Tree) (sights : List Sight) (many : ℕ) (n : TNode) (own : Tree) (r : Result TNodeId AllocError)
    → AreSights v trees sights → length sights ≡ many → are_below many n.kids.items ≡ true
    → None ≡ taken_seen sights n.kind (typ_of n.ty) n.cat n.kids.items → IfOk r (λ (i : TNodeId). Adds a b i own)
    → IfOk r (λ (i : TNodeId). Adds a b i (unwrap_or (taken v n.kind (typ_of n.ty) n.cat (all_folded v (trees_at trees n.kids.items))) own))
own_copied v trees a b sights many n own r s l k c m =
    let known = ap (option_map (folded_at v trees)) c
    ∙ taken_is v trees sights n.kind (typ_of n.ty) n.cat n.kids.items s (same_below (length sights) many n.kids.items l k) in
    adds_same a b r _ _ (ap (λ (z : Option Tree). unwrap_or z own) known) m

-- the node with its kids
pub node_copied : (v : ℕ → Bool) (trees a b d : List Tree) (n : TNode) (ids kids : List TNodeId) (r : Result TNodeId AllocError) → ids ≡ n.kids.items
    → Adding a b kids none (all_folded v (trees_at trees ids))
    → IfOk r (λ (i : TNodeId). Adds b d i (node n.kind (typ_of n.ty) n.cat n.at (trees_at b kids)))
    → IfOk r (λ (i : TNodeId). Adds a d i (node n.kind (typ_of n.ty) n.cat n.at (all_folded v (trees_at trees n.kids.items))))
node_copied v trees a b d n ids kids r e k m =
    last_adds a b d r _ _ k.grows (ap (λ (z : Trees). node n.kind (typ_of n.ty) n.cat n.at z)
    (adding_done a b kids none _ k refl ∙ ap (λ (z : List TNodeId). all_folded v (trees_at trees z)) e)) m

-- kid by kid
kids_next : (v : ℕ → Bool) (trees : List Tree) (ids : List TNodeId) (i : ℕ) (d : TNodeId) → i < length ids
    → all_folded v (trees_at trees (drop i ids)) ≡ more (folded v (tree_at trees (get_or ids i d))) (all_folded v (trees_at trees (drop (i + 1) ids)))
kids_next v trees ids i d h = ap (λ (z : List TNodeId). all_folded v (trees_at trees z)) (drop_step ids i d h)

pub kid_added : (v : ℕ → Bool) (trees : List Tree) (ids : List TNodeId) (i : ℕ) (d : TNodeId) (old now new : List Tree) (kept next : List TNodeId) (r : TNodeId)
    → Adding old now kept (all_folded v (trees_at trees (drop i ids))) (all_folded v (trees_at trees ids)) → i < length ids
    → Adds now new r (folded v (tree_at trees (get_or ids i d))) → next ≡ kept ++ r ∷ []
    → Adding old new next (all_folded v (trees_at trees (drop (i + 1) ids))) (all_folded v (trees_at trees ids))
kid_added v trees ids i d old now new kept next r a h q n = adding_one old now new kept next r _ _ _ _ a (kids_next v trees ids i d h) q n

pub kids_added : (v : ℕ → Bool) (trees : List Tree) (ids : List TNodeId) (i : ℕ) (old now : List Tree) (kept : List TNodeId)
    → Adding old now kept (all_folded v (trees_at trees (drop i ids))) (all_folded v (trees_at trees ids)) → length ids ≤ i
    → Adding old now kept none (all_folded v (trees_at trees ids))
kids_added v trees ids i old now kept a h = record {
  grows = a.grows;
  within = a.within;
  are = ap
      (λ (z : List TNodeId). followed_by (trees_at now kept) (all_folded v (trees_at trees z))) (sym (drop_past ids i h)) ∙ a.are;
}
