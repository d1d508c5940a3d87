-- Trees one behind the other, how many they are and how many lambdas are in them.
use Rattle.std.proofs.Common.{◌≡◌, ℕ, zero, suc, ◌+◌, ◌<◌, ◌≤◌, List, [], ◌∷◌, ◌++◌, length, map, take, drop, get_or, refl, sym, ◌∙◌, ap, arith, Bool, true}
use Rattle.std.proofs.Common.{false, length-append, if◌then◌else◌, append_assoc, append-nil}
use Rattle.std.specs.List.{concat}
use Rattle.std.proofs.lemmas.List.{map-append, length-map}
use Rattle.cpp_ast.specs.declared.arena.Node.{Node}
use Rattle.cpp_ast.specs.declared.arena.NodeId.{NodeId}
use Rattle.cpp_ast.specs.Trees.{Tree, node, Trees, none, more}
use Rattle.cpp_syntax.specs.Derivations.{join, one_tree}
use Rattle.cpp_syntax.specs.View.{trees_of, count_trees, count_lambdas, count_lambdas_in, is_lambda, values_at, values_from, tree_made, lambdas_made, no_tree}
use Rattle.cpp_syntax.specs.View.{trees_from, trees_at, lambdas_from, lambdas_at}
use Rattle.cpp_syntax.proofs.NodeValues.{at_map}

pub trees_of-append : (ts us : List Tree) → trees_of (ts ++ us) ≡ join (trees_of ts) (trees_of us)
trees_of-append [] us = refl
trees_of-append (t ∷ ts) us = ap (more t) (trees_of-append ts us)

pub count_of : (ts : List Tree) → count_trees (trees_of ts) ≡ length ts
count_of [] = refl
count_of (t ∷ ts) = let rest = count_of ts in omega (arith, rest)

pub join_none : (ts : Trees) → join ts none ≡ ts
join_none none = refl
join_none (more t ts) = ap (more t) (join_none ts)

pub record Same (a b c d : Trees) : Type 0 where
  pub front : a ≡ c
  pub back : b ≡ d

-- the parts of joined trees, where as many are in front
pub join_parts : (a b c d : Trees) → join a b ≡ join c d → count_trees a ≡ count_trees c → Same a b c d
join_parts none b none d e n = record { front = refl; back = e }
join_parts none b (more u c) d e n = absurd (omega (arith, n))
join_parts (more t a) b none d e n = absurd (omega (arith, n))
join_parts (more t a) b (more u c) d e n =
    let first : t ≡ u = let f : more t (join a b) ≡ more u (join c d) = e in cc in
    let rest : join a b ≡ join c d = let f : more t (join a b) ≡ more u (join c d) = e in cc in
    let parts = join_parts a b c d rest (omega (arith, n)) in
    record { front = let front : a ≡ c = parts.front in cc; back = parts.back }

-- the sum of the values of a function of trees and of lists of lambdas

abbrev sum : List ℕ → ℕ
sum [] = 0
sum (n ∷ ns) = n + sum ns

abbrev count_made : ℕ → Node → List ℕ → ℕ
count_made id n kids = sum kids + (if is_lambda n.kind then 1 else 0)

module _ {A B : Type 0} where
  pub fused : (h : A → B) (other : A) (make : ℕ → Node → List A → A) (make' : ℕ → Node → List B → B)
      → ((id : ℕ) (n : Node) (kids : List A) → h (make id n kids) ≡ make' id n (map h kids)) → (vs : List A) (ns : List Node)
      → map h (values_from other make vs ns) ≡ values_from (h other) make' (map h vs) ns
  fused h other make make' same vs [] = refl
  fused h other make make' same vs (n ∷ ns) =
      let v : A = make (length vs) n (values_at other vs n.kids.items) in
      let kids : map h (values_at other vs n.kids.items) ≡ values_at (h other) (map h vs) n.kids.items = sym (at_map h other vs n.kids.items) in
      let value : h v ≡ make' (length (map h vs)) n (values_at (h other) (map h vs) n.kids.items) =
      same (length vs) n (values_at other vs n.kids.items) ∙ ap (make' (length vs) n) kids ∙ ap
      (λ (k : ℕ). make' k n (values_at (h other) (map h vs) n.kids.items)) (sym (length-map vs h)) in
      fused h other make make' same (vs ++ v ∷ []) ns
      ∙ ap (λ (ws : List B). values_from (h other) make' ws ns) (map-append h vs (v ∷ []) ∙ ap (λ (w : B). map h vs ++ w ∷ []) value)

pub concat_long : (xss : List (List ℕ)) → length (concat xss) ≡ sum (map (λ (xs : List ℕ). length xs) xss)
concat_long [] = refl
concat_long (xs ∷ xss) = let rest = concat_long xss in let both = length-append xs (concat xss) in omega (arith, rest, both)

lambdas_count : (ts : List Tree) → count_lambdas_in (trees_of ts) ≡ sum (map count_lambdas ts)
lambdas_count [] = refl
lambdas_count (t ∷ ts) = ap (λ (k : ℕ). count_lambdas t + k) (lambdas_count ts)

abbrev tree_counts : List Node → List ℕ
tree_counts nodes = values_from 0 count_made [] nodes

from_trees : (nodes : List Node) → map count_lambdas (values_from no_tree tree_made [] nodes) ≡ tree_counts nodes
from_trees nodes =
    fused count_lambdas no_tree tree_made count_made (λ id n kids. ap (λ (k : ℕ). k + (if is_lambda n.kind then 1 else 0)) (lambdas_count kids)) []
    nodes

one_long : (own : Bool) (id : ℕ) → length (if own then id ∷ [] else []) ≡ (if own then 1 else 0)
one_long true id = refl
one_long false id = refl

lambdas_long : (id : ℕ) (n : Node) (kids : List (List ℕ)) → length (lambdas_made id n kids) ≡ count_made id n (map (λ (xs : List ℕ). length xs) kids)
lambdas_long id n kids =
    length-append (concat kids) (if is_lambda n.kind then id ∷ [] else []) ∙ ap (λ (k : ℕ). k + length (if is_lambda n.kind then id ∷ [] else []))
    (concat_long kids) ∙ ap (λ (k : ℕ). sum (map (λ (xs : List ℕ). length xs) kids) + k) (one_long (is_lambda n.kind) id)

from_lambdas : (nodes : List Node) → map (λ (xs : List ℕ). length xs) (values_from [] lambdas_made [] nodes) ≡ tree_counts nodes
from_lambdas nodes = fused (λ (xs : List ℕ). length xs) [] lambdas_made count_made lambdas_long [] nodes

-- there are as many lambdas below ids as in their trees
pub as_many : (nodes : List Node) (ids : List NodeId) → length (lambdas_at nodes ids) ≡ count_lambdas_in (trees_at nodes ids)
as_many nodes ids =
    concat_long (lambdas_from nodes ids)
    ∙ ap sum (sym (at_map (λ (xs : List ℕ). length xs) [] (values_from [] lambdas_made [] nodes) ids))
    ∙ ap (λ (ns : List ℕ). sum (values_at 0 ns ids)) (from_lambdas nodes ∙ sym (from_trees nodes))
    ∙ ap sum (at_map count_lambdas no_tree (values_from no_tree tree_made [] nodes) ids)
    ∙ sym (lambdas_count (trees_from nodes ids))
