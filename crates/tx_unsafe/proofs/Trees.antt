-- A walk over the tree of a node, kid by kid.
use Rattle.std.proofs.Common.{◌≡◌, ◌∙◌, ◌<◌, ◌≤◌, ◌++◌, ◌+◌, ◌||◌, ℕ, nat_lt, Bool, true, List, [], ◌∷◌, Option, Some, None, slice_get, get_or, length, drop}
use Rattle.std.proofs.Common.{fold, ap, sym, append_assoc, arith, refl}
use Rattle.std.specs.Cmp.Derive.{both_true}
use Rattle.std.proofs.lemmas.Bool.{ltb-true, lt-ltb}
use Rattle.std.proofs.lemmas.Option.{slice_get_read}
use Rattle.std.proofs.lemmas.List.{append-nil, drop_more, drop_all}
use Rattle.std.proofs.lemmas.List.Sums.{fold-append}
use Rattle.cpp_types.specs.Typ.{typ_of}
use Rattle.cpp_tree.specs.declared.arena.TNode.{TNode}
use Rattle.cpp_tree.specs.declared.arena.TNodeId.{TNodeId}
use Rattle.cpp_tree.specs.Trees.{Tree, rest}
use Rattle.cpp_tree.specs.Arena.{IsOrdered, are_below, trees_of, trees_at, tree_of, tree_at}
use Rattle.cpp_tree.proofs.Shown.{tree_of_node}
use Rattle.tx_unsafe.specs.declared.finding.Finding.{Finding}
use Rattle.tx_unsafe.specs.declared.finding.CallSite.{CallSite}
use Rattle.tx_unsafe.specs.Unsafe.{first_of, kid_in, own, own_of, own_in, own_in_all, called, sites, counted, is_atomic, calls_in, calls_in_all}
use Rattle.tx_unsafe.specs.First.{sooner}
use Rattle.tx_unsafe.proofs.Nodes.{both, below_at}

-- Kid by kid

pub next_first : (v : ℕ → Bool) (b : Bool) (trees : List Tree) (ids : List TNodeId) (i : ℕ) (d : TNodeId) (old new all : Option Finding) → i < length ids
    → new ≡ fold sooner old (own_in v b (tree_at trees (get_or ids i d))) → fold sooner old (own_in_all v b (trees_at trees (drop i ids))) ≡ all
    → fold sooner new (own_in_all v b (trees_at trees (drop (i + 1) ids))) ≡ all
next_first v b trees ids i d old new all l e h =
    ap (λ z. fold sooner z (own_in_all v b (trees_at trees (drop (i + 1) ids)))) e
    ∙ sym (fold-append sooner old (own_in v b (tree_at trees (get_or ids i d))) (own_in_all v b (trees_at trees (drop (i + 1) ids))))
    ∙ sym (ap (λ z. fold sooner old (own_in_all v b (trees_at trees z))) (drop_more ids i d l)) ∙ h

pub next_calls : (b : Bool) (trees : List Tree) (ids : List TNodeId) (i : ℕ) (d : TNodeId) (old new all : List CallSite) → i < length ids
    → new ≡ old ++ calls_in b (tree_at trees (get_or ids i d)) → old ++ calls_in_all b (trees_at trees (drop i ids)) ≡ all
    → new ++ calls_in_all b (trees_at trees (drop (i + 1) ids)) ≡ all
next_calls b trees ids i d old new all l e h =
    ap (λ z. z ++ calls_in_all b (trees_at trees (drop (i + 1) ids))) e
    ∙ append_assoc old (calls_in b (tree_at trees (get_or ids i d))) (calls_in_all b (trees_at trees (drop (i + 1) ids)))
    ∙ sym (ap (λ z. old ++ calls_in_all b (trees_at trees z)) (drop_more ids i d l)) ∙ h

-- The node and its kids

pub first_kid : (trees : List Tree) (ids : List TNodeId) → kid_in trees ids 0 ≡ first_of (trees_at trees ids)
first_kid trees [] = refl
first_kid trees (id ∷ ids) = refl

pub second_kid : (trees : List Tree) (ids : List TNodeId) → kid_in trees ids 1 ≡ first_of (rest (trees_at trees ids))
second_kid trees [] = refl
second_kid trees (id ∷ []) = refl
second_kid trees (id ∷ k ∷ ids) = refl

pub own_is : (v : ℕ → Bool) (trees : List Tree) (n : TNode)
    → own_of v trees n ≡ own v n.kind (typ_of n.ty) n.cat n.at (first_of (trees_at trees n.kids.items)) (first_of (rest (trees_at trees n.kids.items)))
own_is v trees n = ap (λ z. own v n.kind (typ_of n.ty) n.cat n.at z (kid_in trees n.kids.items 1)) (first_kid trees n.kids.items)
    ∙ ap (λ z. own v n.kind (typ_of n.ty) n.cat n.at (first_of (trees_at trees n.kids.items)) z) (second_kid trees n.kids.items)

-- where `ids` are the kids, and `deeper` tells whether what stands below the node counts
pub whole_first : (v : ℕ → Bool) (b deeper : Bool) (nodes : List TNode) (id : TNodeId) (n : TNode) (ids : List TNodeId) (old mid new : Option Finding)
    → IsOrdered nodes → id.0 < length nodes
    → n ≡ get_or nodes id.0 n → deeper ≡ (b || is_atomic n.kind) → ids ≡ n.kids.items
    → mid ≡ fold sooner old (counted b (own_of v (trees_of nodes) n)) → new ≡ fold sooner mid (own_in_all v deeper (trees_at (trees_of nodes) ids))
    → new ≡ fold sooner old (own_in v b (tree_at (trees_of nodes) id))
whole_first v b deeper nodes id n ids old mid new o l r d k e h =
    let kids = trees_at (trees_of nodes) n.kids.items in
    let here = counted b (own v n.kind (typ_of n.ty) n.cat n.at (first_of kids) (first_of (rest kids))) in
    h
    ∙ ap (λ z. fold sooner mid (own_in_all v z (trees_at (trees_of nodes) ids))) d
    ∙ ap (λ z. fold sooner mid (own_in_all v (b || is_atomic n.kind) (trees_at (trees_of nodes) z))) k
    ∙ ap (λ z. fold sooner z (own_in_all v (b || is_atomic n.kind) kids)) (e ∙ ap (λ z. fold sooner old (counted b z)) (own_is v (trees_of nodes) n))
    ∙ sym (fold-append sooner old here (own_in_all v (b || is_atomic n.kind) kids))
    ∙ sym (ap (λ z. fold sooner old (own_in v b z)) (tree_of_node nodes id n o (slice_get_read nodes (length nodes) id.0 n refl l r)))

pub whole_calls : (b deeper : Bool) (nodes : List TNode) (id : TNodeId) (n : TNode) (ids : List TNodeId) (old mid new : List CallSite) → IsOrdered nodes
    → id.0 < length nodes
    → n ≡ get_or nodes id.0 n → deeper ≡ (b || is_atomic n.kind) → ids ≡ n.kids.items
    → mid ≡ old ++ counted b (sites (called n.kind) n.at) → new ≡ mid ++ calls_in_all deeper (trees_at (trees_of nodes) ids)
    → new ≡ old ++ calls_in b (tree_at (trees_of nodes) id)
whole_calls b deeper nodes id n ids old mid new o l r d k e h =
    let kids = trees_at (trees_of nodes) n.kids.items in
    h
    ∙ ap (λ z. mid ++ calls_in_all z (trees_at (trees_of nodes) ids)) d
    ∙ ap (λ z. mid ++ calls_in_all (b || is_atomic n.kind) (trees_at (trees_of nodes) z)) k
    ∙ ap (λ z. z ++ calls_in_all (b || is_atomic n.kind) kids) e
    ∙ append_assoc old (counted b (sites (called n.kind) n.at)) (calls_in_all (b || is_atomic n.kind) kids)
    ∙ sym (ap (λ z. old ++ calls_in b z) (tree_of_node nodes id n o (slice_get_read nodes (length nodes) id.0 n refl l r)))

pub last_first : (v : ℕ → Bool) (b : Bool) (trees : List Tree) (ids : List TNodeId) (i : ℕ) (new all : Option Finding) → length ids ≤ i
    → fold sooner new (own_in_all v b (trees_at trees (drop i ids))) ≡ all → new ≡ all
last_first v b trees ids i new all l h = ap (λ z. fold sooner new (own_in_all v b (trees_at trees z))) (sym (drop_all i ids l)) ∙ h

pub last_calls : (b : Bool) (trees : List Tree) (ids : List TNodeId) (i : ℕ) (new all : List CallSite) → length ids ≤ i
    → new ++ calls_in_all b (trees_at trees (drop i ids)) ≡ all → new ≡ all
last_calls b trees ids i new all l h = sym (append-nil new) ∙ ap (λ z. new ++ calls_in_all b (trees_at trees z)) (sym (drop_all i ids l)) ∙ h

-- Ids

pub below_more : (a b : ℕ) (ids : List TNodeId) → a ≤ b → are_below a ids ≡ true → are_below b ids ≡ true
below_more a b [] l h = refl
below_more a b (id ∷ ids) l h = let k = both (nat_lt id.0 a) (are_below a ids) h in let m : id.0 < a = ltb-true id.0 a k.0 in let n : id.0 < b = omega arith in
    both_true (lt-ltb id.0 b n) (below_more a b ids l k.1)

pub kids_below : (nodes : List TNode) (id : ℕ) (n : TNode) → IsOrdered nodes → id < length nodes → n ≡ get_or nodes id n
    → are_below (length nodes) n.kids.items ≡ true
kids_below nodes id n o l h = below_more id (length nodes) n.kids.items (omega arith) (o.lower id n (slice_get_read nodes (length nodes) id n refl l h))

pub kid_below : (nodes : List TNode) (id : ℕ) (n : TNode) (ids : List TNodeId) (i : ℕ) (d : TNodeId) → IsOrdered nodes → id < length nodes
    → n ≡ get_or nodes id n → ids ≡ n.kids.items
    → i < length ids → (get_or ids i d).0 < id
kid_below nodes id n ids i d o l h e k = below_at id ids i d k (ap (are_below id) e ∙ o.lower id n (slice_get_read nodes (length nodes) id n refl l h))
