-- The trees of nodes are the same when nodes are added.
use Rattle.std.proofs.Common.{◌≡◌, ℕ, ◌+◌, ◌<◌, ◌≤◌, true, nat_lt, List, [], ◌∷◌, ◌++◌, length, refl, ◌∙◌, ap, arith, length-append, fold}
use Rattle.std.proofs.lemmas.List.{get_or_append_left, get_or_push}
use Rattle.std.proofs.lemmas.List.Sums.{fold-append}
use Rattle.std.proofs.lemmas.Bool.{and_parts, ltb-true}
use Rattle.cpp_ast.specs.declared.arena.NodeId.{NodeId}
use Rattle.cpp_ast.specs.declared.arena.Node.{Node}
use Rattle.cpp_ast.specs.Orders.{are_below}
use Rattle.cpp_ast.specs.Trees.{Tree}
use Rattle.elab_types.specs.Syntax.{nothing, tree_at, trees_at, tree_of, with_node, syntax_of}
use Rattle.unit_syntax.specs.Copies.{Keeps}

long_from : (ts : List Tree) (ns : List Node) → length (fold with_node ts ns) ≡ length ts + length ns
long_from ts [] = omega arith
long_from ts (n ∷ ns) =
    let rest : length (fold with_node (with_node ts n) ns) ≡ length (with_node ts n) + length ns = long_from (with_node ts n) ns in
    let one : length (with_node ts n) ≡ length ts + 1 = simp length-append (omega arith) in
    omega (arith, rest, one)

syntax_long : (ns : List Node) → length (syntax_of ns) ≡ length ns
unfolding syntax_of
syntax_long ns = let e : length (fold with_node [] ns) ≡ 0 + length ns = long_from [] ns in omega (arith, e)

syntax_push : (ns : List Node) (n : Node) → syntax_of (ns ++ n ∷ []) ≡ syntax_of ns ++ tree_of (syntax_of ns) n ∷ []
unfolding syntax_of
syntax_push ns n = fold-append with_node [] ns (n ∷ [])

-- the tree of the last node
pub tree_pushed : (ns : List Node) (n : Node) (id : NodeId) → id.0 ≡ length ns → tree_at (syntax_of (ns ++ n ∷ [])) id ≡ tree_of (syntax_of ns) n
tree_pushed ns n id e =
    let long : length (syntax_of ns) ≡ length ns = syntax_long ns in
    ap (λ (ts : List Tree). tree_at ts id) (syntax_push ns n) ∙ get_or_push (syntax_of ns) (tree_of (syntax_of ns) n) nothing id.0 (omega (arith, e, long))

pub keeps_all : (ns : List Node) → Keeps ns ns
keeps_all ns = record { longer = omega arith; same = λ id h. refl }

pub keeps_both : (old mid new : List Node) → Keeps old mid → Keeps mid new → Keeps old new
keeps_both old mid new x y =
    let a = x.longer in
    let b = y.longer in
    record { longer = omega (arith, a, b); same = λ id h. y.same id (omega (arith, a, h)) ∙ x.same id h }

pub keeps_one : (ns : List Node) (n : Node) → Keeps ns (ns ++ n ∷ [])
keeps_one ns n = record {
  longer = simp length-append (omega arith);
  same = λ id h.
      let long : length (syntax_of ns) ≡ length ns = syntax_long ns in
      ap (λ (ts : List Tree). tree_at ts id) (syntax_push ns n) ∙ get_or_append_left (syntax_of ns) (tree_of (syntax_of ns) n ∷ []) nothing id.0
      (omega (arith, h, long));
}

pub trees_kept : (old new : List Node) (ids : List NodeId) → Keeps old new → are_below (length old) ids ≡ true
    → trees_at (syntax_of new) ids ≡ trees_at (syntax_of old) ids
trees_kept old new [] k h = refl
trees_kept old new (id ∷ ids) k h =
    let p = and_parts (nat_lt id.0 (length old)) (are_below (length old) ids) h in
    let first : tree_at (syntax_of new) id ≡ tree_at (syntax_of old) id = k.same id (ltb-true id.0 (length old) p.0) in
    let others : trees_at (syntax_of new) ids ≡ trees_at (syntax_of old) ids = trees_kept old new ids k p.1 in
    rw (first, others) refl

pub below_kept : (low high : ℕ) (ids : List NodeId) → low ≤ high → are_below low ids ≡ true → are_below high ids ≡ true
below_kept low high [] le h = refl
below_kept low high (id ∷ ids) le h =
    let p = and_parts (nat_lt id.0 low) (are_below low ids) h in
    let less : id.0 < low = ltb-true id.0 low p.0 in
    let first : nat_lt id.0 high ≡ true = grind (arith, less, le) in
    rw first (below_kept low high ids le p.1)
