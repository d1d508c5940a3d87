-- The tree of a syntax node is made of those of its kids, however many nodes stand behind it.
use Rattle.std.proofs.Common.{◌≡◌, ℕ, zero, suc, ◌+◌, ◌<◌, true, nat_lt, List, [], ◌∷◌, length, Some, refl, sym, ◌∙◌, subst, ap, arith, slice_get}
use Rattle.std.proofs.Common.{length-append, get_or, fold}
use Rattle.std.proofs.lemmas.List.{get_or_append_left, get_or_push}
use Rattle.std.proofs.lemmas.Bool.{and_parts, ltb-true}
use Rattle.elab_conv.specs.cpp_ast.declared.arena.NodeId.{NodeId}
use Rattle.elab_conv.specs.cpp_ast.declared.arena.Node.{Node}
use Rattle.elab_conv.specs.cpp_ast.Orders.{are_below}
use Rattle.elab_conv.specs.cpp_ast.Trees.{Tree, node, Trees}
use Rattle.elab_types.specs.Syntax.{nothing, tree_at, trees_at, tree_of, with_node, syntax_of}

kept : (ts : List Tree) (ns : List Node) (i : ℕ) → i < length ts → get_or (fold with_node ts ns) i nothing ≡ get_or ts i nothing
kept ts [] i h = refl
kept ts (n ∷ ns) i h =
    let more_there : i < length (with_node ts n) = simp length-append (omega arith) in
    kept (with_node ts n) ns i more_there ∙ get_or_append_left ts (tree_of ts n ∷ []) nothing i h

trees_kept : (ts : List Tree) (ns : List Node) (ids : List NodeId) → are_below (length ts) ids ≡ true → trees_at (fold with_node ts ns) ids ≡ trees_at ts ids
trees_kept ts ns [] h = refl
trees_kept ts ns (id ∷ ids) h =
    let p = and_parts (nat_lt id.0 (length ts)) (are_below (length ts) ids) h in
    let first : tree_at (fold with_node ts ns) id ≡ tree_at ts id = kept ts ns id.0 (ltb-true id.0 (length ts) p.0) in
    let others : trees_at (fold with_node ts ns) ids ≡ trees_at ts ids = trees_kept ts ns ids p.1 in
    rw (first, others) refl

node_from : (ts : List Tree) (ns : List Node) (i j : ℕ) (n : Node) → j ≡ length ts + i → slice_get ns i ≡ Some n → are_below j n.kids.items ≡ true
    → get_or (fold with_node ts ns) j nothing ≡ tree_of (fold with_node ts ns) n
node_from ts [] i j n e h b = absurd cc
node_from ts (m ∷ ns) zero j n e h b =
    let there : j < length (with_node ts m) = simp length-append (omega arith) in
    let same : get_or (fold with_node (with_node ts m) ns) j nothing ≡ tree_of ts m = kept (with_node ts m) ns j there
    ∙ get_or_push ts (tree_of ts m) nothing j (omega arith) in
    let is : m ≡ n = cc in
    let place : j ≡ length ts = omega arith in
    let low : are_below (length ts) n.kids.items ≡ true = subst (λ (z : ℕ). are_below z n.kids.items ≡ true) place b in
    let kids : trees_at ts n.kids.items ≡ trees_at (fold with_node ts (m ∷ ns)) n.kids.items = sym (trees_kept ts (m ∷ ns) n.kids.items low) in
    same ∙ ap (tree_of ts) is ∙ ap (λ (z : Trees). node n.kind n.at n.token z) kids
node_from ts (m ∷ ns) (suc i) j n e h b =
    let one_more : length (with_node ts m) ≡ length ts + 1 = simp length-append (omega arith) in
    node_from (with_node ts m) ns i j n (omega arith) h b

pub node_is : (ns : List Node) (id : NodeId) (n : Node) → slice_get ns id.0 ≡ Some n → are_below id.0 n.kids.items ≡ true
    → tree_at (syntax_of ns) id ≡ tree_of (syntax_of ns) n
unfolding syntax_of
node_is ns id n h b = node_from [] ns id.0 id.0 n (omega arith) h b
